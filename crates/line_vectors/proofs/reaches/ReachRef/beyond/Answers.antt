-- Part by part.
use Rattle.std.proofs.Common.{◌≡◌, ◌*◌, ◌<◌, ℕ, List, length, take, drop, refl, ap}
use Rattle.std.proofs.Common.{◌∙◌, arith}
use Rattle.line_vectors.specs.declared.parts.TheConstants.{PART}
use Rattle.line_vectors.specs.Lanes.{over_count}
use Rattle.line_vectors.specs.Parts.{part_count}
use Rattle.line_vectors.proofs.PartLemmas.{few-over, part-counted, part-length, parted-width}
use Rattle.line_vectors.proofs.reaches.ReachRef.beyond.Goals as goal

pub loop-k-init : goal.loop-k-init
loop-k-init c = record {
  parts = c.part_count-k-end.ensures ∙ ap part_count
      (parted-width c.self.inside.n c.self.inside.starts.now c.self.inside.lanes.now
      c.args.self.now c.self.view_is);
  few = omega arith;
  counted = refl;
}

pub count_over-total-requires : goal.count_over-total-requires
count_over-total-requires c =
    let before : c.loop-k.k * PART < length c.args.self.now = omega
    (arith, c.loop-k-test.true, c.loop-k.invariant.parts) in
    omega (
      arith,
      c.requires,
      ap (λ (xs : List ℕ). length xs) c.part.ensures,
      ap (λ (xs : List ℕ). length xs) (c.part_of_lanes.ensures ∙ ap
          (λ (xs : List ℕ). take PART (drop (c.loop-k.k * PART) xs)) c.counts.ensures),
      part-length c.args.self.now c.loop-k.k before,
      part-length c.args.sent.now c.loop-k.k (omega (arith, before, c.requires)),
    )

-- what a part counts
counted : (self sent part counts : List ℕ) (k total : ℕ)
    → part ≡ take PART (drop (k * PART) self) → counts ≡ take PART (drop (k * PART) sent)
    → total ≡ over_count part counts → total
    ≡ over_count (take PART (drop (k * PART) self)) (take PART (drop (k * PART) sent))
counted self sent part counts k total part_is counts_is is =
    is ∙ ap (λ (xs : List ℕ). over_count xs counts) part_is ∙ ap
    (λ (xs : List ℕ). over_count (take PART (drop (k * PART) self)) xs) counts_is

pub overflow_add-total : goal.overflow_add-total
overflow_add-total c =
    let k : ℕ = c.loop-k.k in
    let before : k * PART < length c.args.self.now = omega
    (arith, c.loop-k-test.true, c.loop-k.invariant.parts) in
    omega (
      arith,
      before,
      c.loop-k.invariant.few,
      c.self.invariant.0,
      parted-width c.self.inside.n c.self.inside.starts.now c.self.inside.lanes.now
          c.args.self.now c.self.view_is,
      counted c.args.self.now c.args.sent.now c.part.result.now c.part_of_lanes.result.now k
          c.count_over-total.result c.part.ensures (c.part_of_lanes.ensures ∙ ap
          (λ (xs : List ℕ). take PART (drop (k * PART) xs)) c.counts.ensures)
          c.count_over-total.ensures,
      few-over c.args.self.now c.args.sent.now k,
    )

pub loop-k-preserved : goal.loop-k-preserved
loop-k-preserved c =
    let k : ℕ = c.loop-k.k in
    let here : c.count_over-total.result ≡ over_count (take PART (drop (k * PART) c.args.self.now))
    (take PART (drop (k * PART) c.args.sent.now)) = counted c.args.self.now c.args.sent.now
    c.part.result.now c.part_of_lanes.result.now k c.count_over-total.result c.part.ensures
    (c.part_of_lanes.ensures ∙ ap
    (λ (xs : List ℕ). take PART (drop (k * PART) xs)) c.counts.ensures)
    c.count_over-total.ensures
    in
    record {
      parts = c.loop-k.invariant.parts;
      few = omega
          (arith, c.loop-k.invariant.few, here, few-over c.args.self.now c.args.sent.now k);
      counted = omega
          (arith, c.loop-k.invariant.counted, here, part-counted c.args.self.now c.args.sent.now k);
    }
