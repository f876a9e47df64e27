-- What is held of a vector as its parts are laid, one by one, and at last where they begin.
use Rattle.std.proofs.Common.{◌≡◌, ◌≢◌, ℕ, ◌+◌, ◌*◌, ◌-◌, ◌/◌, ◌%◌, ◌<◌, ◌≤◌, List, ◌++◌, length}
use Rattle.std.proofs.Common.{take, drop, get_or, set, inl, inr, refl, sym, ap, ◌∙◌}
use Rattle.std.proofs.Common.{subst, arith}
use Rattle.std.proofs.lemmas.Bool.{cases_eq}
use Rattle.std.proofs.Math.Seq.{drop-append_seam}
use Rattle.std.proofs.lemmas.List.{ext_get_or, get_or-set_other, get_or-set_same}
use Rattle.std.proofs.lemmas.List.{get_or_append_left, get_or-append_right, length-append}
use Rattle.std.proofs.lemmas.List.{get_or-take, length-take-le, take_all}
use Rattle.line_vectors.specs.declared.parts.TheConstants.{PART}
use Rattle.line_vectors.specs.Parts.{parted, part_count, place_in_parts}
use Rattle.line_vectors.proofs.PartLemmas.{lane-parted, length-parted, part-at, part-length}
use Rattle.line_catalogue.specs.declared.laid.TheConstants.{NOT_LAID}
use Rattle.line_catalogue.specs.Laid.{AreHeld, EndWith, IsAmong, starts_at, vector_after}

-- a part that is laid after the others is held, and so are those that were
pub part-laid : (lanes starts present : List ℕ) (k : ℕ) → k < length starts
    → k < part_count (length present) → AreHeld lanes starts present
    → AreHeld (lanes ++ take PART (drop (k * PART) present)) (set starts k (length lanes)) present
part-laid lanes starts present k there below held p h laid =
    let part : List ℕ = take PART (drop (k * PART) present) in
    let new : List ℕ = set starts k (length lanes) in
    let before : k * PART < length present = omega (arith, below) in
    elim (cases_eq (p / PART) k) [
      | inl here ↦
          let r : ℕ = p % PART in
          let at : get_or new (p / PART) 0 ≡ length lanes =
          ap (λ j. get_or new j 0) here ∙ get_or-set_same starts k (length lanes) 0 there in
          let p_is : k * PART + r ≡ p = omega (arith, here) in
          let short : r < length part = omega (arith, h, p_is, part-length present k before) in (
            omega (arith, at, short, length-append lanes part),
            ap (λ i. get_or (lanes ++ part) (i + r) 0) at
                ∙ get_or-append_right lanes part (length lanes) (length lanes + r) 0 refl
                (omega arith)
                ∙ ap (λ i. get_or part i 0) (omega arith)
                ∙ part-at present k r (omega arith)
                ∙ ap (λ i. get_or present i 0) p_is,
          )
      | inr apart ↦
          let same : get_or new (p / PART) 0 ≡ get_or starts (p / PART) 0 =
          get_or-set_other starts k (p / PART) (length lanes) 0 apart in
          let old = held p h (λ none. laid (same ∙ none)) in
          let place : place_in_parts new p
          ≡ place_in_parts starts p = ap (λ i. i + p % PART) same in (
            omega (arith, place, old.0, length-append lanes part),
            ap (λ i. get_or (lanes ++ part) i 0) place
                ∙ get_or_append_left lanes part 0 (place_in_parts starts p) old.0 ∙ old.1,
          )
    ]

-- where the parts of a vector begin, told after the lanes
module _ (lanes starts present : List ℕ) (count : part_count (length present) ≤ length starts)
    (held : AreHeld lanes starts present)
    (laid : (j : ℕ) → j < part_count (length present) → get_or starts j 0 ≢ NOT_LAID) where
  abbrev told : List ℕ
  told = take (part_count (length present)) starts

  abbrev all : List ℕ
  all = lanes ++ told

  told-long : length told ≡ part_count (length present)
  told-long = length-take-le (part_count (length present)) starts count

  -- a lane stands where it stood
  place-told : (p : ℕ) → p < length present → place_in_parts told p ≡ place_in_parts starts p
  place-told p h = ap (λ i. i + p % PART)
      (get_or-take (part_count (length present)) starts (p / PART) 0 (omega (arith, h)))

  held-there : (p : ℕ) → p < length present
      → (place_in_parts told p < length lanes)
      × (get_or all (place_in_parts told p) 0 ≡ get_or present p 0)
  held-there p h =
      let old = held p h (laid (p / PART) (omega (arith, h))) in (
        omega (arith, place-told p h, old.0),
        ap (λ i. get_or all i 0) (place-told p h)
            ∙ get_or_append_left lanes told 0 (place_in_parts starts p) old.0 ∙ old.1,
      )

  at-end : length all - part_count (length present) ≡ length lanes
  at-end = omega (arith, length-append lanes told, told-long)

  told-at : starts_at (length present) all (length lanes) ≡ told
  told-at = ap (take (part_count (length present))) (drop-append_seam lanes told)
      ∙ take_all (part_count (length present)) told (omega (arith, told-long))

  pub told-of : EndWith all present
  told-of = record {
    among = subst (IsAmong (length present) all) (sym at-end) (record {
      told = omega (arith, length-append lanes told, told-long);
      before = λ p h. omega
          (arith, ap (λ (xs : List ℕ). place_in_parts xs p) told-at, (held-there p h).0);
    });
    vector = ap (vector_after (length present) all) at-end
        ∙ ap (λ (xs : List ℕ). parted (length present) xs all) told-at
        ∙ ext_get_or 0 (parted (length present) told all) present
        (length-parted (length present) told all) (λ p h.
        let within : p < length present = omega (arith, h, length-parted (length present) told all)
        in
        lane-parted (length present) told all p 0 within ∙ (held-there p within).1);
  }

  -- what was held is held among more lanes
  pub held-on : AreHeld all starts present
  held-on p h there =
      let old = held p h there in (
        omega (arith, old.0, length-append lanes told),
        get_or_append_left lanes told 0 (place_in_parts starts p) old.0 ∙ old.1,
      )
