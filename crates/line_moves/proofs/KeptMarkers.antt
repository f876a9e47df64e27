-- What is left of the markers of a round once those are out that recorded nothing.
use Rattle.std.proofs.Common.{◌≡◌, ◌≢◌, ℕ, zero, suc, ◌+◌, ◌*◌, ◌%◌, ◌^◌, ◌<◌, ◌≤◌, true, false}
use Rattle.std.proofs.Common.{cond, ltb, List, [], ◌∷◌, length, get_or, refl, sym, ap, ◌∙◌, subst}
use Rattle.std.proofs.Common.{arith, inl, inr, bit_or, w64}
use Rattle.std.specs.Int.{bit_at}
use Rattle.std.specs.Prelude.{All, remove}
use Rattle.std.specs.List.Sorted.{IsNonDecreasingBy, IsPartitionPoint}
use Rattle.std.specs.Option.{unwrap_or}
use Rattle.std.proofs.lemmas.Bool.{cases_eq, cases_lt, eq-eqb, ltb-false, ltb-true, ne_eqb}
use Rattle.std.proofs.lemmas.List.{get_or_default}
use Rattle.std.proofs.lemmas.List.Elements.{All-nil, All-cons, All-head, All-tail}
use Rattle.std.proofs.lemmas.Nat.Bits.{bit_at_set_same, bit_at_set_other}
use Rattle.line_rounds.specs.Recording.{MarkerView, messages_by, round_of}
use Rattle.line_names.specs.declared.messages.MsgName.{MsgName}
use Rattle.line_moves.specs.Openings.{kept_channel, marker_at, marker_of, no_marker}
use Rattle.line_moves.specs.Openings.{recorded_channel, AreByProcess, AreMarkers, AreRecordedBy}

-- the markers are of later and later processes, the first of them of this one or a later one
abbrev pub Ascend : ℕ → List MarkerView → Type 0
Ascend low [] = Unit {0}
Ascend low (marker ∷ rest) = (low ≤ marker.me) × Ascend (suc marker.me) rest

Ascend-weaker : (low least : ℕ) (markers : List MarkerView) → least ≤ low → Ascend low markers
    → Ascend least markers
Ascend-weaker low least [] most is = tt
Ascend-weaker low least (marker ∷ rest) most is = (omega (arith, most, is.0), is.1)

-- so they stand by process
least : (low : ℕ) (markers : List MarkerView) → Ascend low markers → (i : ℕ) (d : MarkerView)
    → i < length markers → low ≤ (get_or markers i d).me
least low [] is i d within = absurd (omega (arith, within))
least low (marker ∷ rest) is zero d within = is.0
least low (marker ∷ rest) is (suc i) d within =
    let above = least (suc marker.me) rest is.1 i d (omega (arith, within)) in
    omega (arith, above, is.0)

pub by_process : (low : ℕ) (markers : List MarkerView) → Ascend low markers → AreByProcess markers
by_process low [] is i j d less within = absurd (omega (arith, within))
by_process low (marker ∷ rest) is zero zero d less within = absurd (omega (arith, less))
by_process low (marker ∷ rest) is zero (suc j) d less within =
    least (suc marker.me) rest is.1 j d (omega (arith, within))
by_process low (marker ∷ rest) is (suc i) zero d less within = absurd (omega (arith, less))
by_process low (marker ∷ rest) is (suc i) (suc j) d less within =
    by_process (suc marker.me) rest is.1 i j d (omega (arith, less)) (omega (arith, within))

pub in_order : (markers : List MarkerView) → AreByProcess markers
    → IsNonDecreasingBy (λ (marker : MarkerView). marker.me) markers
in_order markers ascend i j d le within = elim (cases_lt i j) [
  | inl less ↦ let more = ascend i j d less within in omega (arith, more)
  | inr past ↦ let same : i ≡ j =
      omega (arith, le, past) in omega (arith, ap (λ (k : ℕ). (get_or markers k d).me) same)
]

-- so none is of an earlier one
none_before : (low q : ℕ) (markers : List MarkerView) → q < low → Ascend low markers
    → marker_of markers q ≡ no_marker
none_before low q [] less is = refl
none_before low q (marker ∷ rest) less is =
    ap (λ b. cond b marker (marker_of rest q))
    (ne_eqb marker.me q (λ e. omega (arith, e, less, is.0)))
    ∙ none_before (suc marker.me) q rest (omega (arith, less, is.0)) is.1

-- those of all processes stand at their places
module _ (first : ℕ) (markers : List MarkerView)
    (aligned : (q : ℕ) → q < length markers → (marker_at markers q).me ≡ first + q) where
  later : (marker : MarkerView) (rest : List MarkerView) → markers ≡ marker ∷ rest → (q : ℕ)
      → q < length rest → (marker_at rest q).me ≡ suc first + q
  later marker rest e q within =
      let l : length markers ≡ suc (length rest) = ap (λ (ms : List MarkerView). length ms) e in
      ap (λ (ms : List MarkerView). (marker_at ms (suc q)).me) (sym e) ∙ aligned (suc q)
      (omega (arith, within, l)) ∙ omega arith

pub aligned_ascend : (first : ℕ) (markers : List MarkerView)
    → ((q : ℕ) → q < length markers → (marker_at markers q).me ≡ first + q) → Ascend first markers
aligned_ascend first [] aligned = tt
aligned_ascend first (marker ∷ rest) aligned =
    let own : marker.me ≡ first = aligned 0 (omega arith) ∙ omega arith in (
      omega (arith, own),
      subst (λ (k : ℕ). Ascend (suc k) rest) (sym own)
          (aligned_ascend (suc first) rest (later first (marker ∷ rest) aligned marker rest refl)),
    )

-- the first marker of a process is the one that is found
pub found_at : (markers : List MarkerView) (i q : ℕ) → i < length markers
    → ((k : ℕ) → k < i → (marker_at markers k).me ≢ q) → (marker_at markers i).me ≡ q
    → marker_of markers q ≡ marker_at markers i
found_at [] i q within before at = absurd (omega (arith, within))
found_at (marker ∷ rest) zero q within before at =
    ap (λ b. cond b marker (marker_of rest q)) (eq-eqb marker.me q at)
found_at (marker ∷ rest) (suc i) q within before at =
    ap (λ b. cond b marker (marker_of rest q)) (ne_eqb marker.me q (before 0 (omega arith)))
    ∙ found_at rest i q (omega (arith, within)) (λ k less. before (suc k) (omega (arith, less))) at

pub found_nowhere : (markers : List MarkerView) (q : ℕ) →
    ((k : ℕ) → k < length markers → (marker_at markers k).me ≢ q) → marker_of markers q ≡ no_marker
found_nowhere [] q none = refl
found_nowhere (marker ∷ rest) q none =
    ap (λ b. cond b marker (marker_of rest q)) (ne_eqb marker.me q (none 0 (omega arith)))
    ∙ found_nowhere rest q (λ k within. none (suc k) (omega (arith, within)))

-- a bit for one process more
pub bits_more : (old : ℕ) (markers : List MarkerView) (i p : ℕ)
    → ((k : ℕ) (d : MarkerView) → k < i → bit_at old ((get_or markers k d).me % 64) ≡ 1)
    → ((d : MarkerView) → (get_or markers i d).me ≡ p)
    → (k : ℕ) (d : MarkerView) → k < i + 1
    → bit_at (bit_or old (1 * 2 ^ (p % 64) % 2 ^ 64)) ((get_or markers k d).me % 64) ≡ 1
bits_more old markers i p before own k d within =
    let bit : ℕ = (get_or markers k d).me % 64 in
    elim (cases_eq bit (p % 64)) [
      | inl same ↦ ap (bit_at (bit_or old (1 * 2 ^ (p % 64) % 2 ^ 64))) same
          ∙ bit_at_set_same w64 old (p % 64) (omega arith)
      | inr apart ↦
          let other : k ≢ i = λ e. apart (ap (λ (j : ℕ). (get_or markers j d).me % 64) e
          ∙ ap (λ (q : ℕ). q % 64) (own d)) in
          bit_at_set_other w64 old (p % 64) (omega arith) bit apart
          ∙ before k d (omega (arith, within, other))
    ]

-- a process whose bit is not set recorded nothing
pub none_recorded : (bits : ℕ) (markers : List MarkerView) (q : ℕ) → AreRecordedBy bits markers
    → bit_at bits (q % 64) ≡ 0 → marker_of markers q ≡ no_marker
none_recorded bits markers q recorded absent =
    found_nowhere markers q (λ k within e. absurd (omega
    (arith, absent, ap (λ (p : ℕ). bit_at bits (p % 64)) e, recorded k no_marker within)))

-- the marker of a process that stands at some place is the one that is found
pub found_here : (markers : List MarkerView) (place q : ℕ) (marker : MarkerView)
    → AreByProcess markers → place < length markers → marker ≡ get_or markers place marker
    → marker.me ≡ q → marker_of markers q ≡ marker
found_here markers place q marker ascend within is same =
    let own : marker ≡ marker_at markers place =
    is ∙ get_or_default markers place marker no_marker within in
    let at : (marker_at markers place).me ≡ q = ap (λ (m : MarkerView). m.me) (sym own) ∙ same in
    found_at markers place q within
    (λ k below e. let less = ascend k place no_marker below within in
    absurd (omega (arith, less, at, e))) at
    ∙ sym own

-- what a search finds at the place where those of the processes before end
module _ (markers : List MarkerView) (to place : ℕ)
    (point : IsPartitionPoint (λ (marker : MarkerView). ltb marker.me to ≡ true)
    (λ (marker : MarkerView). ltb marker.me to ≡ false) markers place) where
  before_place : (k : ℕ) → k < place → (marker_at markers k).me < to
  before_place k below =
      ltb-true (marker_at markers k).me to (point.0 k no_marker (omega arith) below)

  module _ (marker : MarkerView) (within : place < length markers)
      (is : marker ≡ get_or markers place marker) where
    own : marker ≡ marker_at markers place
    own = is ∙ get_or_default markers place marker no_marker within

    pub search_found : marker.me ≡ to → marker_of markers to ≡ marker
    search_found same =
        found_at markers place to within (λ k below e. absurd (omega
        (arith, before_place k below, e))) (ap (λ (m : MarkerView). m.me) (sym own) ∙ same)
        ∙ sym own

    pub search_lost : AreByProcess markers → marker.me ≢ to → marker_of markers to ≡ no_marker
    search_lost ascend other = found_nowhere markers to (λ k k_within. elim (cases_lt k place) [
      | inl below ↦ λ e. absurd (omega (arith, before_place k below, e))
      | inr above ↦
          let here : marker.me ≡ (marker_at markers place).me = ap (λ (m : MarkerView). m.me) own in
          let high = ltb-false (marker_at markers place).me to
          (point.1 place no_marker (omega arith) within) in
          let behind = in_order markers ascend place k no_marker above k_within in
          λ e. absurd (other (omega (arith, here, high, behind, e)))
    ])

  pub search_past : length markers ≤ place → marker_of markers to ≡ no_marker
  search_past past = found_nowhere markers to
      (λ k k_within e. absurd (omega (arith, before_place k (omega (arith, k_within, past)), e)))

-- of the markers of all processes each is found at its place
pub found_all : (n r p q : ℕ) (markers : List MarkerView) → AreMarkers n markers → q < n
    → kept_channel markers r p q ≡ recorded_channel markers r p q
found_all n r p q markers are within =
    ap (λ (marker : MarkerView). unwrap_or (messages_by (round_of marker.rounds r) p) [])
    (found_at markers q q (omega (arith, within, are.count)) (λ k less e. omega
    (arith, less, e, are.me_is k (omega (arith, less, within)))) (are.me_is q within))

-- what all are stays so for what is left
pub All-removed : {X : Type 0} (P : X → Type 0) (xs : List X) (j : ℕ) → All P xs
    → All P (remove xs j)
All-removed P [] zero all = All-nil P
All-removed P [] (suc j) all = All-nil P
All-removed P (x ∷ xs) zero all = All-tail P x xs all
All-removed P (x ∷ xs) (suc j) all =
    All-cons P x (remove xs j) (All-head P x xs all) (All-removed P xs j (All-tail P x xs all))

pub Ascend-removed : (low : ℕ) (markers : List MarkerView) (j : ℕ) → Ascend low markers
    → Ascend low (remove markers j)
Ascend-removed low [] zero is = tt
Ascend-removed low [] (suc j) is = tt
Ascend-removed low (marker ∷ rest) zero is =
    Ascend-weaker (suc marker.me) low rest (omega (arith, is.0)) is.1
Ascend-removed low (marker ∷ rest) (suc j) is = (is.0, Ascend-removed (suc marker.me) rest j is.1)

module _ (r p q : ℕ) where
  abbrev pub told : MarkerView → List MsgName
  told marker = unwrap_or (messages_by (round_of marker.rounds r) p) []

  -- without a marker that recorded nothing of a channel, the same is kept of it
  pub kept_removed : (low : ℕ) (markers : List MarkerView) (j : ℕ) → Ascend low markers
      → j < length markers → told (marker_at markers j) ≡ []
      → kept_channel (remove markers j) r p q ≡ kept_channel markers r p q
  kept_removed low [] j is within silent = absurd (omega (arith, within))
  kept_removed low (marker ∷ rest) zero is within silent = elim (cases_eq marker.me q) [
    | inl same ↦
        ap told (none_before (suc marker.me) q rest (omega (arith, same)) is.1)
        ∙ sym silent
        ∙ ap (λ b. told (cond b marker (marker_of rest q))) (sym (eq-eqb marker.me q same))
    | inr apart ↦ ap (λ b. told (cond b marker (marker_of rest q))) (sym (ne_eqb marker.me q apart))
  ]
  kept_removed low (marker ∷ rest) (suc j) is within silent = elim (cases_eq marker.me q) [
    | inl same ↦
        ap (λ b. told (cond b marker (marker_of (remove rest j) q))) (eq-eqb marker.me q same)
        ∙ ap (λ b. told (cond b marker (marker_of rest q))) (sym (eq-eqb marker.me q same))
    | inr apart ↦
        ap (λ b. told (cond b marker (marker_of (remove rest j) q))) (ne_eqb marker.me q apart)
        ∙ kept_removed (suc marker.me) rest j is.1 (omega (arith, within)) silent
        ∙ ap (λ b. told (cond b marker (marker_of rest q))) (sym (ne_eqb marker.me q apart))
  ]
