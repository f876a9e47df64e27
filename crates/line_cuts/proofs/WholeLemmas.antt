-- Two floors as one, by their lists of numbers.
use Rattle.std.proofs.Common.{◌≡◌, ℕ, zero, suc, ◌+◌, ◌-◌, ◌<◌, ◌≤◌, ◌^◌, List, [], ◌∷◌, length}
use Rattle.std.proofs.Common.{map, get_or, inl, inr, refl, ap, ◌∙◌, arith}
use Rattle.std.specs.List.{range_with_len}
use Rattle.std.proofs.lemmas.List.FromFn.{get_or-map-range_with_len}
use Rattle.line_cuts.specs.Cuts.{Floor, floor_check, lost_checks, lost_sends, whole_floor}
use Rattle.line_cuts.specs.Floors.{IsTooGreat}

-- what is let go of the checks of one process
pub lost_at : (checks : List ℕ) (p : ℕ)
    → get_or (map (λ c. c - 1) checks) p 0 ≡ get_or checks p 0 - 1
lost_at [] p = omega arith
lost_at (c ∷ checks) zero = refl
lost_at (c ∷ checks) (suc p) = lost_at checks p

map_same : (f g : ℕ → ℕ) → ((p : ℕ) → f p ≡ g p) → (ps : List ℕ) → map f ps ≡ map g ps
map_same f g same [] = refl
map_same f g same (p ∷ ps) =
    ap (λ (v : ℕ). v ∷ map f ps) (same p) ∙ ap (λ (vs : List ℕ). g p ∷ vs) (map_same f g same ps)

module _ (floor later : Floor) where
  -- the sums that are the checks
  pub checks_are : (lost : List ℕ) → lost ≡ map (λ c. c - 1) floor.checks
      → map (λ p. get_or later.checks p 0 + get_or lost p 0)
      (range_with_len 0 (length later.checks)) ≡ (whole_floor floor later).checks
  checks_are lost is =
      map_same (λ p. get_or later.checks p 0 + get_or lost p 0)
      (λ p. floor_check later p + lost_checks floor p)
      (λ p. ap (λ (v : ℕ). get_or later.checks p 0 + v)
      (ap (λ (xs : List ℕ). get_or xs p 0) is ∙ lost_at floor.checks p))
      (range_with_len 0 (length later.checks))

  -- one of them is too great
  pub check_too_great : (lost : List ℕ) (p : ℕ) → lost ≡ map (λ c. c - 1) floor.checks
      → p < length later.checks
      → 2 ^ 32 ≤ get_or later.checks p 0 + get_or lost p 0 → IsTooGreat (whole_floor floor later)
  check_too_great lost p is within great =
      let one : get_or lost p 0
      ≡ lost_checks floor p = ap (λ (xs : List ℕ). get_or xs p 0) is ∙ lost_at floor.checks p in
      let at : floor_check (whole_floor floor later) p
      ≡ floor_check later p + lost_checks floor p = get_or-map-range_with_len (λ q. floor_check
      later q + lost_checks floor q) 0 (length later.checks) p p 0 within (omega arith) in
      (p, inl (omega arith))

  -- or one of the numbers of sends
  pub count_too_great : (p : ℕ) → p < length later.sends
      → 2 ^ 32 ≤ get_or floor.sends p 0 + get_or later.sends p 0
      → IsTooGreat (whole_floor floor later)
  count_too_great p within great =
      let at : lost_sends (whole_floor floor later) p
      ≡ lost_sends floor p + lost_sends later p = get_or-map-range_with_len (λ q. lost_sends
      floor q + lost_sends later q) 0 (length later.sends) p p 0 within (omega arith) in
      (p, inr (omega arith))

pub same_floors : (a b : Floor) → a.checks ≡ b.checks → a.sends ≡ b.sends → a.round ≡ b.round
    → a ≡ b
same_floors a b checks sends round =
    ap (λ (v : List ℕ). record { checks = v; sends = a.sends; round = a.round }) checks
    ∙ ap (λ (v : List ℕ). record { checks = b.checks; sends = v; round = a.round }) sends
    ∙ ap (λ (v : ℕ). record { checks = b.checks; sends = b.sends; round = v }) round

-- the same of what is read of both floors
pub checks_from : (floor later : Floor) (terms lost xs : List ℕ) (n : ℕ) → terms ≡ later.checks
    → lost ≡ map (λ c. c - 1) floor.checks → n ≡ length later.checks
    → xs ≡ map (λ p. get_or terms p 0 + get_or lost p 0) (range_with_len 0 n)
    → xs ≡ (whole_floor floor later).checks
checks_from floor later terms lost xs n terms_are lost_are n_is are =
    are
    ∙ ap (λ (ts : List ℕ). map (λ p. get_or ts p 0 + get_or lost p 0) (range_with_len 0 n))
    terms_are
    ∙ ap (λ (m : ℕ). map (λ p. get_or later.checks p 0 + get_or lost p 0) (range_with_len 0 m)) n_is
    ∙ checks_are floor later lost lost_are

pub check_from : (floor later : Floor) (terms lost : List ℕ) (n p : ℕ) → terms ≡ later.checks
    → lost ≡ map (λ c. c - 1) floor.checks → n ≡ length later.checks → p < n
    → 2 ^ 32 ≤ get_or terms p 0 + get_or lost p 0 → IsTooGreat (whole_floor floor later)
check_from floor later terms lost n p terms_are lost_are n_is within great =
    let term : get_or terms p 0
    ≡ get_or later.checks p 0 = ap (λ (xs : List ℕ). get_or xs p 0) terms_are in
    check_too_great floor later lost p lost_are (omega arith) (omega arith)

pub counts_from : (floor later : Floor) (terms others xs : List ℕ) (n : ℕ) → terms ≡ floor.sends
    → others ≡ later.sends → n ≡ length later.sends
    → xs ≡ map (λ p. get_or terms p 0 + get_or others p 0) (range_with_len 0 n)
    → xs ≡ (whole_floor floor later).sends
counts_from floor later terms others xs n terms_are others_are n_is are =
    are
    ∙ ap (λ (ts : List ℕ). map (λ p. get_or ts p 0 + get_or others p 0) (range_with_len 0 n))
    terms_are
    ∙ ap (λ (ts : List ℕ). map (λ p. get_or floor.sends p 0 + get_or ts p 0) (range_with_len 0 n))
    others_are
    ∙ ap (λ (m : ℕ). map (λ p. get_or floor.sends p 0 + get_or later.sends p 0)
    (range_with_len 0 m)) n_is

pub count_from : (floor later : Floor) (terms others : List ℕ) (n p : ℕ) → terms ≡ floor.sends
    → others ≡ later.sends → n ≡ length later.sends → p < n
    → 2 ^ 32 ≤ get_or terms p 0 + get_or others p 0 → IsTooGreat (whole_floor floor later)
count_from floor later terms others n p terms_are others_are n_is within great =
    let term : get_or terms p 0
    ≡ get_or floor.sends p 0 = ap (λ (xs : List ℕ). get_or xs p 0) terms_are in
    let other : get_or others p 0
    ≡ get_or later.sends p 0 = ap (λ (xs : List ℕ). get_or xs p 0) others_are in
    count_too_great floor later p (omega arith) (omega arith)

-- and of what is found to be too great
pub check_none : (floor later : Floor) (terms lost : List ℕ) → terms ≡ later.checks
    → lost ≡ map (λ c. c - 1) floor.checks
    → (p : ℕ) × ((p < length terms) × (2 ^ 32 ≤ get_or terms p 0 + get_or lost p 0))
    → IsTooGreat (whole_floor floor later)
check_none floor later terms lost terms_are lost_are w =
    check_from floor later terms lost (length terms) w.0 terms_are lost_are
    (ap (λ (xs : List ℕ). length xs) terms_are) w.1.0 w.1.1

pub count_none : (floor later : Floor) (terms others : List ℕ) → terms ≡ floor.sends
    → others ≡ later.sends
    → (p : ℕ) × ((p < length others) × (2 ^ 32 ≤ get_or terms p 0 + get_or others p 0))
    → IsTooGreat (whole_floor floor later)
count_none floor later terms others terms_are others_are w =
    count_from floor later terms others (length others) w.0 terms_are others_are
    (ap (λ (xs : List ℕ). length xs) others_are) w.1.0 w.1.1
