-- Part by part, from the one where the known lanes end.
use Rattle.std.proofs.Common.{◌≡◌, ◌+◌, ◌*◌, ◌<◌, ℕ, List, length, get_or, take, drop}
use Rattle.std.proofs.Common.{ap, subst, ◌∙◌, arith}
use Rattle.line_vectors.specs.declared.parts.TheConstants.{PART}
use Rattle.line_vectors.specs.Lanes.{HasNoneOver, IsFirstOver}
use Rattle.line_vectors.specs.Parts.{part_count}
use Rattle.line_vectors.specs.Vectors.{FitsBefore, IsFirstBeyond}
use Rattle.line_vectors.proofs.PartLemmas.{part-at, part-beyond, part-fits, part-length}
use Rattle.line_vectors.proofs.PartLemmas.{parted-width}
use Rattle.line_vectors.proofs.reaches.ReachRef.first_beyond_from.Goals as goal

pub loop-k-init : goal.loop-k-init
loop-k-init c = record {
  from = omega arith;
  parts = c.part_count-k-end.ensures ∙ ap part_count
      (parted-width c.self.inside.n c.self.inside.starts.now c.self.inside.lanes.now
      c.args.self.now c.self.view_is);
  none = λ p h. c.requires.none p (omega (arith, h));
}

pub first_over_from-requires-clause-lanes : goal.first_over_from-requires-clause-lanes
first_over_from-requires-clause-lanes c =
    let before : c.loop-k.k * PART < length c.args.self.now = omega
    (arith, c.loop-k-test.true, c.loop-k.invariant.parts) in
    omega (
      arith,
      c.requires.lanes,
      ap (λ (xs : List ℕ). length xs) c.part.ensures,
      ap (λ (xs : List ℕ). length xs) (c.part_of_lanes.ensures ∙ ap
          (λ (xs : List ℕ). take PART (drop (c.loop-k.k * PART) xs)) c.counts.ensures),
      part-length c.args.self.now c.loop-k.k before,
      part-length c.args.sent.now c.loop-k.k (omega (arith, before, c.requires.lanes)),
    )

pub first_over_from-requires-clause-from : goal.first_over_from-requires-clause-from
first_over_from-requires-clause-from c =
    let before : c.loop-k.k * PART < length c.args.self.now = omega
    (arith, c.loop-k-test.true, c.loop-k.invariant.parts) in
    omega (
      arith,
      c.requires.from,
      c.saturating_sub-known.ensures,
      c.loop-k.invariant.from,
      ap (λ (xs : List ℕ). length xs) c.part.ensures,
      part-length c.args.self.now c.loop-k.k before,
    )

pub first_over_from-requires-clause-none : goal.first_over_from-requires-clause-none
first_over_from-requires-clause-none c = λ i h.
    let k : ℕ = c.loop-k.k in
    let small : i < PART = omega
    (arith, h, c.saturating_sub-known.ensures, c.loop-k.invariant.from) in
    let self_at : get_or c.part.result.now i 0 ≡ get_or c.args.self.now (k * PART + i) 0 =
    ap (λ (xs : List ℕ). get_or xs i 0) c.part.ensures ∙ part-at c.args.self.now k i small in
    let sent_at : get_or c.part_of_lanes.result.now i 0 ≡ get_or c.args.sent.now (k * PART + i) 0 =
    ap (λ (xs : List ℕ). get_or xs i 0) c.part_of_lanes.ensures ∙ ap
    (λ (xs : List ℕ). get_or (take PART (drop (k * PART) xs)) i 0) c.counts.ensures ∙ part-at
    c.args.sent.now k i small in
    omega (
      arith,
      self_at,
      sent_at,
      c.requires.none (k * PART + i) (omega (arith, h, c.saturating_sub-known.ensures)),
    )

pub overflow_cast-at : goal.overflow_cast-at
overflow_cast-at c =
    let before : c.loop-k.k * PART < length c.args.self.now = omega
    (arith, c.loop-k-test.true, c.loop-k.invariant.parts) in
    omega (
      arith,
      c.in-Some.ensures.within,
      ap (λ (xs : List ℕ). length xs) c.part.ensures,
      part-length c.args.self.now c.loop-k.k before,
      c.self.invariant.0,
      parted-width c.self.inside.n c.self.inside.starts.now c.self.inside.lanes.now
          c.args.self.now c.self.view_is,
    )

-- the lane that is found is the first one beyond
found : (self sent part counts : List ℕ) (k i : ℕ) → k * PART < length self
    → FitsBefore self sent (k * PART) → part ≡ take PART (drop (k * PART) self)
    → counts ≡ take PART (drop (k * PART) sent) → IsFirstOver part counts i
    → IsFirstBeyond self sent (k * PART + i)
found self sent part counts k i before none part_is counts_is first =
    part-beyond self sent k i before none
    (subst (λ (xs : List ℕ). IsFirstOver xs (take PART (drop (k * PART) sent)) i) part_is
    (subst (λ (xs : List ℕ). IsFirstOver part xs i) counts_is first))

pub unwrap-requires : goal.unwrap-requires
unwrap-requires c =
    let before : c.loop-k.k * PART < length c.args.self.now = omega
    (arith, c.loop-k-test.true, c.loop-k.invariant.parts) in
    grind (
      arith,
      c.try_new.ensures,
      c.in-Some.ensures.within,
      ap (λ (xs : List ℕ). length xs) c.part.ensures,
      part-length c.args.self.now c.loop-k.k before,
      parted-width c.self.inside.n c.self.inside.starts.now c.self.inside.lanes.now
          c.args.self.now c.self.view_is,
    )

pub returns-in-Some : goal.returns-in-Some
returns-in-Some c =
    let k : ℕ = c.loop-k.k in
    let before : k * PART < length c.args.self.now = omega
    (arith, c.loop-k-test.true, c.loop-k.invariant.parts) in
    let there : IsFirstBeyond c.args.self.now c.args.sent.now (k * PART + c.in-Some.i) = found
    c.args.self.now c.args.sent.now c.part.result.now c.part_of_lanes.result.now k c.in-Some.i
    before
    c.loop-k.invariant.none c.part.ensures (c.part_of_lanes.ensures ∙ ap
    (λ (xs : List ℕ). take PART (drop (k * PART) xs)) c.counts.ensures) c.in-Some.ensures
    in
    subst (λ p. IsFirstBeyond c.args.self.now c.args.sent.now p)
    (grind (arith, c.try_new.ensures, c.unwrap.ensures)) there

pub loop-k-preserved : goal.loop-k-preserved
loop-k-preserved c =
    let k : ℕ = c.loop-k.k in
    let before : k * PART < length c.args.self.now = omega
    (arith, c.loop-k-test.true, c.loop-k.invariant.parts) in
    record {
      from = omega (arith, c.loop-k.invariant.from);
      parts = c.loop-k.invariant.parts;
      none = part-fits c.args.self.now c.args.sent.now k before c.loop-k.invariant.none
          (subst (λ (xs : List ℕ). HasNoneOver xs (take PART (drop (k * PART) c.args.sent.now)))
          c.part.ensures (subst (λ (xs : List ℕ). HasNoneOver c.part.result.now xs)
          (c.part_of_lanes.ensures ∙ ap (λ (xs : List ℕ). take PART (drop (k * PART) xs))
          c.counts.ensures) c.in_default.ensures));
    }
