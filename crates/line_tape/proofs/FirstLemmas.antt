-- The first receipt of a message, and whether it is among the first ones of a tape.
use Rattle.std.proofs.Common.{◌≡◌, ◌≢◌, ◌↔◌, ℕ, zero, suc, ◌<◌, ◌≤◌, ◌⊎◌, [], Bool, true, false}
use Rattle.std.proofs.Common.{List, length, take, get_or, map, refl, sym, ap, ◌∙◌, subst, arith}
use Rattle.std.proofs.Common.{inl, inr}
use Rattle.std.specs.List.{Contains}
use Rattle.std.proofs.Math.ListN.{get_or-map}
use Rattle.std.proofs.lemmas.Bool.{cases_lt, false≢true}
use Rattle.std.proofs.lemmas.List.{get_or-take, get_or_default, length-map, length-take}
use Rattle.line_names.specs.declared.messages.MsgName.{MsgName}
use Rattle.line_names.specs.Names.{is_name}
use Rattle.line_names.proofs.NameLemmas.{is_name-true, is_name-same}
use Rattle.line_tape.specs.declared.receipts.chains.Receipt.{Receipt}
use Rattle.line_tape.specs.Ends.{EndsView, link_of_sender}
use Rattle.line_tape.specs.Noted.{AreNoted, IsAhead, IsAside, IsNode, IsSeatOf, name_of_receipt}
use Rattle.line_tape.specs.Noted.{name_at, link_in_seat}
use Rattle.line_tape.proofs.AheadLemmas.{from_of, number_of}
use Rattle.line_tape.proofs.SeatLemmas.{none_node}

one_or_not : (a b : MsgName) → (a ≡ b) ⊎ (a ≢ b)
one_or_not a b = go (is_name a b) refl
  where
    go : (t : Bool) → is_name a b ≡ t → (a ≡ b) ⊎ (a ≢ b)
    go true e = inl (is_name-true a b e)
    go false e = inr (λ same. false≢true (sym e ∙ is_name-same a b same))

-- the first of a message among the first receipts, if there is one
first_among : (rs : List Receipt) (m : MsgName) (n : ℕ) → ((i : ℕ) → i < n → name_at rs i ≢ m)
    ⊎ ((k : ℕ) × (k < n) × (name_at rs k ≡ m) × ((j : ℕ) → j < k → name_at rs j ≢ m))
first_among rs m zero = inl (λ i l. absurd (omega arith))
first_among rs m (suc n) = elim (first_among rs m n) [
  | inr (k, l, e, f) ↦ inr (k, omega arith, e, f)
  | inl none ↦ elim (one_or_not (name_at rs n) m) [
    | inl e ↦ inr (n, omega arith, e, none)
    | inr ne ↦ inl (λ i l e. elim (cases_lt i n) [
      | inl g ↦ none i g e
      | inr g ↦ let is : i ≡ n = omega arith in ne (subst (λ k. name_at rs k ≡ m) is e)
    ])
  ]
]

-- a message that is neither ahead nor in the tree is not received
pub none_received : (rs : List Receipt) (root above : ℕ) (far : Bool) (m : MsgName)
    → IsSeatOf rs root m above far → link_in_seat rs root above far ≡ 0
    → ((i : ℕ) → i < length rs → IsAhead rs i → name_at rs i ≢ m) → (i : ℕ) → i < length rs
    → name_at rs i ≢ m
none_received rs root above far m seat empty ahead i l named = elim (first_among rs m (length rs)) [
  | inl none ↦ none i l named
  | inr (k, low, e, f) ↦
      let aside : IsAside rs k = record
      { first = λ j lj behind same. f j lj (same ∙ e); behind = λ a. ahead k low a e } in
      absurd (omega (arith, empty, seat.found k low aside e))
]

-- where a message has no receipt in the tree, each of its receipts is ahead
pub only_ahead : (rs : List Receipt) (root above : ℕ) (far : Bool) (m : MsgName)
    → IsSeatOf rs root m above far → link_in_seat rs root above far ≡ 0
    → (i : ℕ) → i < length rs → (IsAhead rs i → ⊥) → name_at rs i ≢ m
only_ahead rs root above far m seat empty i l = none_below (suc i) (omega arith) i (omega arith)
  where
    none_below : (n : ℕ) → n ≤ length rs → (j : ℕ) → j < n → (IsAhead rs j → ⊥) → name_at rs j ≢ m
    none_below zero few j low behind named = absurd (omega arith)
    none_below (suc n) few j low behind named = elim (cases_lt j n) [
      | inl g ↦ absurd (none_below n (omega arith) j g behind named)
      | inr g ↦
          let is : j ≡ n = omega arith in
          let aside : IsAside rs j = record {
            first = λ k lk other same. none_below n
                (omega arith) k (omega arith) other (same ∙ named);
            behind = behind;
          } in
          absurd (omega (arith, empty, seat.found j (omega arith) aside named))
    ]

-- a receipt that is ahead is the first of its message
pub ahead_first : (rs : List Receipt) (i j : ℕ) (m : MsgName) → IsAhead rs i → name_at rs i ≡ m
    → j < i → name_at rs j ≢ m
ahead_first rs i j m a named l same =
    let e : name_at rs j ≡ name_at rs i = same ∙ sym named in
    let u : number_of (name_at rs j) ≡ number_of (name_at rs i) = ap number_of e in
    let w : number_of (name_at rs j) < number_of (name_at rs i) = a.above j l (ap from_of e) in
    omega arith

-- and so is one in the tree, where none that is ahead is of its message
pub aside_first : (rs : List Receipt) (i j : ℕ) (m : MsgName) → IsAside rs i
    → (IsAhead rs j → name_at rs j ≢ m) → name_at rs i ≡ m → j < i → name_at rs j ≢ m
aside_first rs i j m a none named l same = a.first j l (λ ahead. none ahead same) (same ∙ sym named)

name_in : (rs : List Receipt) (i : ℕ) (m : MsgName) → i < length rs
    → get_or (map name_of_receipt rs) i m ≡ name_at rs i
name_in rs i m l =
    let many : length (map name_of_receipt rs) ≡ length rs = length-map rs name_of_receipt in
    get_or_default (map name_of_receipt rs) i m _ (omega arith) ∙ get_or-map name_of_receipt rs i _

-- a link to the first receipt of a message is no greater than a bound where a receipt before it is
-- of the message
pub first_within : (rs : List Receipt) (m : MsgName) (end link : ℕ)
    → ((i : ℕ) → link ≡ suc i
    → (i < length rs) × (name_at rs i ≡ m) × ((j : ℕ) → j < i → name_at rs j ≢ m))
    → (link ≡ 0 → (i : ℕ) → i < length rs → name_at rs i ≢ m)
    → ((link ≢ 0) × (link ≤ end)) ↔ Contains (take end (map name_of_receipt rs)) m
first_within rs m end zero found none = (
  λ both. absurd (both.0 refl),
  λ k.
      let i : ℕ = k.0 in
      let many : length (map name_of_receipt rs) ≡ length rs = length-map rs name_of_receipt in
      let low : i < length (take end (map name_of_receipt rs)) = k.1 in
      let few : i < length rs = omega (arith, length-take end (map name_of_receipt rs)) in
      let early : i < end = omega (arith, length-take end (map name_of_receipt rs)) in
      absurd (none refl i few (sym (name_in rs i m few) ∙ sym
      (get_or-take end (map name_of_receipt rs) i m early) ∙ k.2)),
)
first_within rs m end (suc i) found none =
    let here : (i < length rs) × (name_at rs i ≡ m)
    × ((j : ℕ) → j < i → name_at rs j ≢ m) = found i refl in
    let l : i < length rs = here.0 in
    let many : length (map name_of_receipt rs) ≡ length rs = length-map rs name_of_receipt in (
      λ both.
          let low : suc i ≤ end = both.1 in (
            i,
            omega (arith, length-take end (map name_of_receipt rs)),
            get_or-take end
                (map name_of_receipt rs) i m (omega arith) ∙ name_in rs i m l ∙ here.1,
          ),
      λ k.
          let j : ℕ = k.0 in
          let low : j < length (take end (map name_of_receipt rs)) = k.1 in
          let few : j < length rs = omega (arith, length-take end (map name_of_receipt rs)) in
          let early : j < end = omega (arith, length-take end (map name_of_receipt rs)) in
          let named : name_at rs j ≡ m = sym (name_in rs j m few) ∙ sym
          (get_or-take end (map name_of_receipt rs) j m early) ∙ k.2 in (
            λ none. absurd (omega arith),
            elim (cases_lt j i) [
              | inl g ↦ absurd (here.2 j g named)
              | inr g ↦ omega arith
            ],
          ),
    )

-- the index of no receipts
pub noted_none : (rs : List Receipt) (last : EndsView) → rs ≡ []
    → ((sender : ℕ) → link_of_sender last sender ≡ 0) → AreNoted rs last 0
noted_none rs last none zeros =
    let few : length rs ≡ 0 = ap (λ (xs : List Receipt). length xs) none in
    record {
      few = omega arith;
      chained = record {
        near = λ i l a. absurd (omega arith);
        far = λ i l a. absurd (omega arith);
        told = λ i l some back. absurd (omega arith);
        senders = λ i l. absurd (omega arith);
      };
      ends = record {
        each = λ s l.
            let is : link_of_sender last s ≡ 0 = zeros s in
            record {
              back = record { each = λ k e. absurd (omega arith) };
              most = λ i low same.
                  absurd (omega arith);
            };
      };
      tree = record {
        nodes = λ link far node. subst (IsNode rs) (sym (empty link far node)) (none_node rs);
        later = λ link far node some. absurd (some (empty link far node));
        apart = λ a b x y one two some is. absurd (some (empty a x one));
        reached = λ i l a. absurd (omega arith);
      };
    }
  where
    empty : (link : ℕ) (far : Bool) → IsNode rs link → link_in_seat rs 0 link far ≡ 0
    empty zero far node = refl
    empty (suc i) far node =
        let l : i < length rs = (node.each i refl).0 in
        let few : length rs ≡ 0 = ap (λ (xs : List Receipt). length xs) none in
        absurd (omega arith)

-- the same of names that are told otherwise
pub first_within_names : (rs : List Receipt) (wanted m : MsgName) (names : List MsgName)
    (end link : ℕ) → map name_of_receipt rs ≡ names → wanted ≡ m
    → ((i : ℕ) → link ≡ suc i
    → (i < length rs) × (name_at rs i ≡ wanted) × ((j : ℕ) → j < i → name_at rs j ≢ wanted))
    → (link ≡ 0 → (i : ℕ) → i < length rs → name_at rs i ≢ wanted)
    → ((link ≢ 0) × (link ≤ end)) ↔ Contains (take end names) m
first_within_names rs wanted m names end link told same found none =
    subst (λ (xs : List MsgName). ((link ≢ 0) × (link ≤ end)) ↔ Contains (take end xs) m) told
    (subst (λ (x : MsgName). ((link ≢ 0) × (link ≤ end)) ↔ Contains
    (take end (map name_of_receipt rs)) x) same (first_within rs wanted end link found none))
