-- The row of a process that has done nothing: all parts of its vector are one part, of lanes that
-- are 0.
use Rattle.std.proofs.Common.{◌≡◌, ℕ, ◌+◌, ◌*◌, ◌-◌, ◌/◌, ◌%◌, ◌<◌, ◌≤◌, false, List, [], ◌∷◌}
use Rattle.std.proofs.Common.{length}
use Rattle.std.proofs.Common.{min, get_or, inl, inr, sym, ap, ◌∙◌, subst, arith}
use Rattle.std.specs.Prelude.{replicate}
use Rattle.std.proofs.lemmas.Bool.{cases_lt}
use Rattle.std.proofs.lemmas.List.{ext_get_or, get_or-replicate, get_or_past, length-replicate}
use Rattle.line_vectors.specs.declared.parts.TheConstants.{PART}
use Rattle.line_vectors.specs.Parts.{part_count, place_in_parts}
use Rattle.line_vectors.proofs.PartLemmas.{lane-parted, length-parted}
use Rattle.line_catalogue.specs.declared.kept_rows.KeptRow.{KeptRow}
use Rattle.line_catalogue.specs.declared.laid.TheConstants.{MOST_PARTS}
use Rattle.line_catalogue.specs.Laid.{AreAmong, AreHeld, EndWith, IsAmong, starts_at}
use Rattle.line_catalogue.specs.Laid.{vector_after, width_of}
use Rattle.line_catalogue.specs.Rows.{new_row}
use Rattle.line_catalogue.proofs.LaidLemmas.{Shows, start-in}

-- each number of a list of zeros is 0, and past it too
zero-at : (m i : ℕ) → ◌≡◌ {A = ℕ} (get_or (replicate m 0) i 0) 0
zero-at m i = elim (cases_lt i m) [
  | inl within ↦ get_or-replicate m i 0 0 within
  | inr past ↦ get_or_past (replicate m 0) i 0 (omega (arith, past, length-replicate {A = ℕ} m 0))
]

module _ (n : ℕ) (some : 0 < n) where
  abbrev first : ℕ
  first = min PART n

  abbrev lanes : List ℕ
  lanes = replicate (first + part_count n) 0

  abbrev starts : List ℕ
  starts = replicate MOST_PARTS 0

  abbrev present : List ℕ
  present = replicate n 0

  abbrev row : KeptRow
  row = record { place = 0; sends = 0; start = first; damaged = false }

  many : length lanes ≡ first + part_count n
  many = length-replicate (first + part_count n) 0

  wide : length present ≡ n
  wide = length-replicate n 0

  place-of : (p : ℕ) → p < n → place_in_parts (starts_at n lanes first) p ≡ p % PART
  place-of p h =
      let none : get_or (starts_at n lanes first) (p / PART) 0 ≡ 0 =
      start-in n first lanes p h ∙ zero-at (first + part_count n) (first + p / PART) in
      omega (arith, none)

  is-among : IsAmong n lanes first
  is-among = record {
    told = omega (arith, many);
    before = λ p h. omega (arith, place-of p h, h);
  }

  vector-is : vector_after n lanes first ≡ present
  vector-is = ext_get_or 0 (vector_after n lanes first) present
      (length-parted n (starts_at n lanes first) lanes ∙ sym wide) (λ p h.
      lane-parted n (starts_at n lanes first) lanes p 0
      (omega (arith, h, length-parted n (starts_at n lanes first) lanes))
      ∙ zero-at (first + part_count n) (place_in_parts (starts_at n lanes first) p)
      ∙ sym (zero-at n p))

  ends : EndWith lanes present
  ends =
      let at : length lanes - part_count (length present) ≡ first = omega
      (arith, many, ap part_count wide) in
      record {
        among = subst (λ m. IsAmong m lanes (length lanes - part_count (length present))) (sym wide)
            (subst (IsAmong n lanes) (sym at) is-among);
        vector = ap (λ m. vector_after m lanes (length lanes - part_count (length present))) wide
            ∙ ap (vector_after n lanes) at ∙ vector-is;
      }

  held : AreHeld lanes starts present
  held p h laid = (
    omega (arith, h, wide, many, zero-at MOST_PARTS (p / PART)),
    zero-at (first + part_count n) (place_in_parts starts p) ∙ sym (zero-at n p),
  )

  is-first : (c : ℕ) → c < 1 → c ≡ 0
  is-first c h = omega (arith, h)

  only : (c : ℕ) (d : KeptRow) → c < 1 → get_or (row ∷ []) c d ≡ row
  only c d h = ap (λ i. get_or (row ∷ []) i d) (is-first c h)

  pub first-shows : Shows lanes (row ∷ []) false starts present n (new_row 0 0 present ∷ [])
  first-shows = record {
    laid = record {
      some = omega (arith, some, wide);
      among = subst (λ m. AreAmong m lanes (row ∷ [])) (sym wide) (λ c d h.
          subst (IsAmong n lanes) (ap (λ (r : KeptRow). r.start) (sym (only c d h))) is-among);
      ordered = λ k c d below h. omega (
        arith,
        ap (λ (r : KeptRow). r.start) (only k d (omega (arith, below, h))),
        ap (λ (r : KeptRow). r.start) (only c d h),
      );
      early = λ c d h. subst
          (λ m. (get_or (row ∷ []) c d).start + part_count m ≤ (c + 1) * width_of m) (sym wide)
          (omega (
            arith,
            ap (λ (r : KeptRow). r.start) (only c d h),
            ap (λ k. (k + 1) * width_of n) (is-first c h),
          ));
      few = subst (λ m. length lanes ≤ 1 * width_of m) (sym wide) (omega (arith, many));
      held = held;
      last = λ same. ends;
    };
    shows = ap (λ (vector : List ℕ). new_row 0 0 vector ∷ []) vector-is;
  }
