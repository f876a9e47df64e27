-- Lanes that stand in parts.
use Rattle.std.proofs.Common.{◌≡◌, ℕ, zero, suc, ◌+◌, ◌-◌, ◌*◌, ◌/◌, ◌%◌, ◌<◌, ◌≤◌, List, length}
use Rattle.std.proofs.Common.{get_or, take, drop, min, refl, sym, ap, ◌∙◌, arith}
use Rattle.std.proofs.Common.{Bool, true, cond, ◌==◌, ◌&&◌, [], ◌∷◌, inl, inr, subst, take-add}
use Rattle.std.specs.Prelude.{count_by}
use Rattle.std.proofs.lemmas.List.Sums.{sum_by-append, count_by-le-length}
use Rattle.std.proofs.lemmas.Bool.{and_parts, cases_lt, eqb-true}
use Rattle.std.proofs.lemmas.List.{ext_get_or, get_or-drop, get_or-take, get_or_past, length-drop}
use Rattle.std.proofs.lemmas.List.{length-take}
use Rattle.std.proofs.lemmas.List.FromFn.{get_or-map-range_with_len, length-map-range_with_len}
use Rattle.line_vectors.proofs.LaneLemmas.{count_parts, take_short}
use Rattle.line_vectors.specs.declared.parts.TheConstants.{PART}
use Rattle.line_vectors.specs.declared.reaches.TheConstants.{STARTS}
use Rattle.line_vectors.specs.Lanes.{HasNoneOver, IsFirstOver, over_count, overs}
use Rattle.line_vectors.specs.Vectors.{FitsBefore, IsFirstBeyond}
use Rattle.line_vectors.specs.Parts.{ArePartsAmong, lane_in_parts, parted, place_in_parts}

pub length-parted : (n : ℕ) (starts lanes : List ℕ) → length (parted n starts lanes) ≡ n
length-parted n starts lanes = length-map-range_with_len (lane_in_parts starts lanes) 0 n

pub lane-parted : (n : ℕ) (starts lanes : List ℕ) (p d : ℕ) → p < n
    → get_or (parted n starts lanes) p d ≡ lane_in_parts starts lanes p
lane-parted n starts lanes p d within =
    get_or-map-range_with_len (lane_in_parts starts lanes) 0 n p p d within (omega arith)

-- lane r of part k stands r places past the part's start
pub place-of : (starts : List ℕ) (k r : ℕ) → r < PART
    → place_in_parts starts (k * PART + r) ≡ get_or starts k 0 + r
place-of starts k r below =
    let part : (k * 16 + r) / 16 ≡ k = omega (arith, below) in
    let rest : (k * 16 + r) % 16 ≡ r = omega (arith, below) in
    ap (λ i. get_or starts i 0 + (k * 16 + r) % 16) part ∙ ap (λ i. get_or starts k 0 + i) rest

module _ (n : ℕ) (starts lanes : List ℕ) (among : ArePartsAmong n starts (length lanes)) (k : ℕ)
    (before : k * PART < n) where
  -- how many lanes the part has
  abbrev width : ℕ
  width = min PART (n - k * PART)

  pub part-started : k < length starts
  part-started = omega (arith, among.enough, before)

  -- the part stands among the lanes
  pub part-within : get_or starts k 0 + width ≤ length lanes
  part-within = omega (
    arith,
    among.within (k * PART + (width - 1)) (omega (arith, before)),
    place-of starts k (width - 1) (omega (arith, before)),
  )

  -- its lanes are those of the vector
  pub part-lanes : take width (drop (get_or starts k 0) lanes)
      ≡ take PART (drop (k * PART) (parted n starts lanes))
  part-lanes =
      let vector : List ℕ = parted n starts lanes in
      let part : List ℕ = take width (drop (get_or starts k 0) lanes) in
      let long : length part ≡ width = omega (
        arith,
        part-within,
        length-take width (drop (get_or starts k 0) lanes),
        length-drop (get_or starts k 0) lanes,
      )
      in
      ext_get_or 0 part (take PART (drop (k * PART) vector)) (omega (
        arith,
        long,
        length-take PART (drop (k * PART) vector),
        length-drop (k * PART) vector,
        length-parted n starts lanes,
        before,
      )) (λ r h.
      let below : r < width = omega (arith, h, long) in
      get_or-take width (drop (get_or starts k 0) lanes) r 0 below
      ∙ get_or-drop (get_or starts k 0) lanes r 0
      ∙ ap (λ i. get_or lanes i 0) (sym (place-of starts k r (omega (arith, below))))
      ∙ sym (lane-parted n starts lanes (k * PART + r) 0 (omega (arith, below, before)))
      ∙ sym (get_or-drop (k * PART) vector r 0)
      ∙ sym (get_or-take PART (drop (k * PART) vector) r 0 (omega (arith, below))))

-- ---- parts that stand one after the other

-- each of so many first parts begins sixteen lanes after the one before
abbrev are-in-row : ℕ → Bool
are-in-row zero = true
are-in-row (suc k) = (get_or STARTS k 0 == k * 16) && are-in-row k

starts-of : (n : ℕ) → are-in-row n ≡ true → (k : ℕ) → k < n → get_or STARTS k 0 ≡ k * 16
starts-of zero all k h = absurd (omega (arith, h))
starts-of (suc n) all k h =
    let parts = and_parts (get_or STARTS n 0 == n * 16) (are-in-row n) all in
    elim (cases_lt k n) [
      | inl before ↦ starts-of n parts.1 k before
      | inr behind ↦ subst (λ j. get_or STARTS j 0 ≡ j * 16) (omega (arith, h, behind))
          (eqb-true (get_or STARTS n 0) (n * 16) parts.0)
    ]

starts-at : (k : ℕ) → k < 16 → get_or STARTS k 0 ≡ k * 16
starts-at = starts-of 16 refl

place-in-row : (p : ℕ) → p < 256 → place_in_parts STARTS p ≡ p
place-in-row p h =
    let below : p / 16 < 16 = omega (arith, h) in
    ap (λ i. i + p % 16) (starts-at (p / 16) below) ∙ omega arith

pub row-among : (n : ℕ) → n ≤ 256 → ArePartsAmong n STARTS n
row-among n few = record {
  enough = omega (arith, few);
  within = λ p h. omega (arith, h, place-in-row p (omega (arith, h, few)));
}

pub row-parted : (lanes : List ℕ) → length lanes ≤ 256 → parted (length lanes) STARTS lanes ≡ lanes
row-parted lanes few = ext_get_or 0 (parted (length lanes) STARTS lanes) lanes
    (length-parted (length lanes) STARTS lanes) (λ p h.
    let within : p < length lanes = omega (arith, h, length-parted (length lanes) STARTS lanes) in
    lane-parted (length lanes) STARTS lanes p 0 within
    ∙ ap (λ i. get_or lanes i 0) (place-in-row p (omega (arith, within, few))))

-- ---- a part of a list

pub part-length : (xs : List ℕ) (k : ℕ) → k * PART < length xs
    → length (take PART (drop (k * PART) xs)) ≡ min PART (length xs - k * PART)
part-length xs k before =
    omega (arith, before, length-take PART (drop (k * PART) xs), length-drop (k * PART) xs)

pub part-at : (xs : List ℕ) (k i : ℕ) → i < PART
    → get_or (take PART (drop (k * PART) xs)) i 0 ≡ get_or xs (k * PART + i) 0
part-at xs k i below =
    get_or-take PART (drop (k * PART) xs) i 0 below ∙ get_or-drop (k * PART) xs i 0

-- where no lane of a part is over its count, none of one part more is
pub part-fits : (lanes counts : List ℕ) (k : ℕ) → k * PART < length lanes
    → FitsBefore lanes counts (k * PART)
    → HasNoneOver (take PART (drop (k * PART) lanes)) (take PART (drop (k * PART) counts))
    → FitsBefore lanes counts ((k + 1) * PART)
part-fits lanes counts k before none part p h = elim (cases_lt p (k * PART)) [
  | inl first ↦ none p first
  | inr behind ↦ elim (cases_lt p (length lanes)) [
    | inl within ↦
        let i : ℕ = p - k * PART in
        let there : k * PART + i ≡ p = omega (arith, behind) in
        subst (λ q. get_or lanes q 0 ≤ get_or counts q 0) there (omega (
          arith,
          part i (omega (arith, h, behind, within, part-length lanes k before)),
          part-at lanes k i (omega (arith, h, behind)),
          part-at counts k i (omega (arith, h, behind)),
        ))
    | inr past ↦ omega (arith, get_or_past lanes p 0 past)
  ]
]

-- the first lane of a part that is over its count
pub part-beyond : (lanes counts : List ℕ) (k i : ℕ) → k * PART < length lanes
    → FitsBefore lanes counts (k * PART)
    → IsFirstOver (take PART (drop (k * PART) lanes)) (take PART (drop (k * PART) counts)) i
    → IsFirstBeyond lanes counts (k * PART + i)
part-beyond lanes counts k i before none first =
    let below : i < PART = omega (arith, first.within, part-length lanes k before) in
    record {
      within = omega (arith, first.within, part-length lanes k before);
      beyond = omega
          (arith, first.over, part-at lanes k i below, part-at counts k i below);
      none_before = λ q h. elim (cases_lt q (k * PART)) [
        | inl early ↦ none q early
        | inr late ↦
            let j : ℕ = q - k * PART in
            let there : k * PART + j ≡ q = omega (arith, late) in
            subst (λ r. get_or lanes r 0 ≤ get_or counts r 0) there (omega (
              arith,
              first.none_before j (omega (arith, h, late)),
              part-at lanes k j (omega (arith, h, late, below)),
              part-at counts k j (omega (arith, h, late, below)),
            ))
      ];
    }

-- a vector in parts has as many lanes as it says
pub parted-width : (n : ℕ) (starts lanes vector : List ℕ) → parted n starts lanes ≡ vector
    → n ≡ length vector
parted-width n starts lanes vector is =
    sym (length-parted n starts lanes) ∙ ap (λ (xs : List ℕ). length xs) is

-- ---- how many lanes are over their counts

over-nothing : (a : List ℕ) → [] ≡ overs a []
over-nothing [] = refl
over-nothing (x ∷ xs) = refl

drop-overs : (n : ℕ) (a b : List ℕ) → drop n (overs a b) ≡ overs (drop n a) (drop n b)
drop-overs zero a b = refl
drop-overs (suc n) [] b = refl
drop-overs (suc n) (x ∷ xs) [] = over-nothing (drop n xs)
drop-overs (suc n) (x ∷ xs) (y ∷ ys) = drop-overs n xs ys

-- of one part more it is as many more as in that part
pub part-counted : (lanes counts : List ℕ) (k : ℕ)
    → over_count (take ((k + 1) * PART) lanes) (take ((k + 1) * PART) counts)
    ≡ over_count (take (k * PART) lanes) (take (k * PART) counts)
    + over_count (take PART (drop (k * PART) lanes)) (take PART (drop (k * PART) counts))
part-counted lanes counts k =
    let at : ℕ = k * PART in
    let more : (k + 1) * PART ≡ at + PART = omega arith in
    ap (λ i. over_count (take i lanes) (take i counts)) more
    ∙ count_parts lanes counts (at + PART)
    ∙ ap (λ (xs : List Bool). count_by (λ over. over) xs) (take-add at PART (overs lanes counts))
    ∙ sum_by-append (λ over. cond over 1 0) (take at (overs lanes counts))
    (take PART (drop at (overs lanes counts)))
    ∙ ap (λ i. i + count_by (λ over. over) (take PART (drop at (overs lanes counts))))
    (sym (count_parts lanes counts at))
    ∙ ap (λ (xs : List Bool). over_count (take at lanes) (take at counts)
    + count_by (λ over. over) (take PART xs)) (drop-overs at lanes counts)
    ∙ ap (λ i. over_count (take at lanes) (take at counts) + i)
    (sym (count_parts (drop at lanes) (drop at counts) PART))

pub few-over : (lanes counts : List ℕ) (k : ℕ)
    → over_count (take PART (drop (k * PART) lanes)) (take PART (drop (k * PART) counts)) ≤ PART
few-over lanes counts k = omega (
  arith,
  count_parts (drop (k * PART) lanes) (drop (k * PART) counts) PART,
  count_by-le-length (λ over. over) (take PART (overs (drop (k * PART) lanes)
      (drop (k * PART) counts))),
  take_short PART (overs (drop (k * PART) lanes) (drop (k * PART) counts)),
)
