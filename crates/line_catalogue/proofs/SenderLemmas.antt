-- The messages of one process: where they stand among all, and what holds of them.
use Rattle.std.proofs.Common.{◌≡◌, ℕ, ◌+◌, ◌-◌, ◌<◌, ◌≤◌, Bool, true, false, cond, leb, ltb, List}
use Rattle.std.proofs.Common.{[], ◌∷◌, ◌++◌, ◌⊎◌, length, take, drop, get_or, map, filter, refl}
use Rattle.std.proofs.Common.{sym, ap, ◌∙◌, subst, append-nil, arith, inl, inr}
use Rattle.std.specs.Prelude.{◌==◌}
use Rattle.std.specs.List.{All, Contains, slice_range}
use Rattle.std.specs.List.Sorted.{IsNonDecreasing, IsPartitionPoint}
use Rattle.std.proofs.lemmas.Bool.{cases_lt, eq-eqb, eqb-true, leb-false, leb-true, ltb-false}
use Rattle.std.proofs.lemmas.Bool.{ltb-true, ne_eqb}
use Rattle.std.proofs.lemmas.List.{length-take, length-drop, length-map, get_or-map, get_or-drop}
use Rattle.std.proofs.lemmas.List.{get_or-take, get_or_default, take-append-drop}
use Rattle.std.proofs.lemmas.List.Elements.{filter-append, filter_passes, All-head, All-tail}
use Rattle.std.proofs.lemmas.List.Folds.{drop_split}
use Rattle.std.proofs.lemmas.List.Kept.{AllPairs-filter}
use Rattle.line_names.specs.declared.choices.Choice.{Choice}
use Rattle.line_names.specs.declared.messages.MsgName.{MsgName}
use Rattle.line_tape.specs.Event.{sends}
use Rattle.line_tape.specs.History.{Process}
use Rattle.line_tape.specs.Line.{events_before}
use Rattle.line_tape.proofs.CutLemmas.{contains_nothing, cons_cases}
use Rattle.line_catalogue.specs.Left.{messages_of, open_first, ComeInOrder, HasOpen, HasOpenBeside}
use Rattle.line_catalogue.proofs.LeftLemmas.{contains_cons, contains_first, in_filter, in_map}
use Rattle.line_catalogue.proofs.OpenLemmas.{gap-to, none_between}

module _ {X : Type 0} (test : X → Bool) where
  -- a filter of what passes nowhere, and of what passes everywhere
  filter-none : (xs : List X) → All (λ x. test x ≡ false) xs → filter test xs ≡ []
  filter-none [] none = refl
  filter-none (x ∷ xs) none = ap (λ b. cond b (x ∷ filter test xs) (filter test xs)) (All-head
      (λ y. test y ≡ false) x xs none) ∙ filter-none xs (All-tail (λ y. test y ≡ false) x xs none)

  filter-all : (xs : List X) → All (λ x. test x ≡ true) xs → filter test xs ≡ xs
  filter-all [] all = refl
  filter-all (x ∷ xs) all = ap (λ b. cond b (x ∷ filter test xs) (filter test xs))
      (All-head (λ y. test y ≡ true) x xs all) ∙ ap (λ (ys : List X). x ∷ ys)
      (filter-all xs (All-tail (λ y. test y ≡ true) x xs all))

  -- what is left of a list was in it
  from_filter : (xs : List X) (y : X) → Contains (filter test xs) y → Contains xs y
  from_filter [] y c = absurd (contains_nothing y c)
  from_filter (x ∷ xs) y c = elim (test x) as (λ (b : Bool). Contains
      (cond b (x ∷ filter test xs) (filter test xs)) y → Contains (x ∷ xs) y) [
        | true ↦ λ d. elim (cons_cases x (filter test xs) y d) [
          | inl same ↦ subst (Contains (x ∷ xs)) same (contains_first x xs)
          | inr later ↦ contains_cons x y xs (from_filter xs y later)
        ]
        | false ↦ λ d. contains_cons x y xs (from_filter xs y d)
      ] c

-- the messages of process p stand between those of the processes below and those of the ones above
module _ (messages : List MsgName) (p start end : ℕ)
    (first : IsPartitionPoint (λ (m : MsgName). ltb m.from p ≡ true)
    (λ (m : MsgName). ltb m.from p ≡ false) messages start)
    (last : IsPartitionPoint (λ (m : MsgName). leb m.from p ≡ true)
    (λ (m : MsgName). leb m.from p ≡ false) messages end)
    (start_within : start ≤ length messages) where
  pub part_ascends : start ≤ end
  part_ascends = elim (cases_lt end start) [
    | inl below ↦
        let any : MsgName = record { from = 0; inc = 0; number = 0 } in
        let low = ltb-true (get_or messages end any).from p (first.0 end any (omega arith) below) in
        let high = leb-false (get_or messages end any).from p
        (last.1 end any (omega arith) (omega (arith, below, start_within))) in
        absurd (omega (arith, low, high))
    | inr above ↦ above
  ]

  pub part_sent : end ≤ length messages → slice_range messages start end ≡ messages_of p messages
  part_sent end_within =
      let is : MsgName → Bool = λ (m : MsgName). m.from == p in
      let front : List MsgName = take start messages in
      let middle : List MsgName = slice_range messages start end in
      let back : List MsgName = drop end messages in
      let whole : messages ≡ front ++ (middle ++ back) = sym (take-append-drop start messages) ∙ ap
      (λ (ms : List MsgName). front ++ ms) (drop_split messages start end part_ascends) in
      let none_before : filter is front ≡ [] = filter-none is front (λ k d k_within.
      let below : k < start = omega (arith, k_within, length-take start messages) in
      let low = ltb-true (get_or messages k d).from p (first.0 k d (omega arith) below) in
      ap (λ (m : MsgName). m.from == p) (get_or-take start messages k d below) ∙ ne_eqb
      (get_or messages k d).from p (λ e. absurd (omega (arith, low, e)))) in
      let none_behind : filter is back ≡ [] = filter-none is back (λ k d k_within.
      let within : end + k < length messages = omega (arith, k_within, length-drop end messages) in
      let high = leb-false (get_or messages (end + k) d).from p
      (last.1 (end + k) d (omega arith) within) in
      ap (λ (m : MsgName). m.from == p) (get_or-drop end messages k d) ∙ ne_eqb
      (get_or messages (end + k) d).from p (λ e. absurd (omega (arith, high, e)))) in
      let all_between : filter is middle ≡ middle = filter-all is middle (λ k d k_within.
      let inside : k < end - start = omega
      (arith, k_within, length-take (end - start) (drop start messages)) in
      let within : start + k < length messages = omega (arith, inside, end_within) in
      let low = ltb-false (get_or messages (start + k) d).from p
      (first.1 (start + k) d (omega arith) within) in
      let high = leb-true (get_or messages (start + k) d).from p
      (last.0 (start + k) d (omega arith) (omega (arith, inside))) in
      ap (λ (m : MsgName). m.from == p)
      (get_or-take (end - start) (drop start messages) k d inside ∙ get_or-drop start messages k
      d) ∙ eq-eqb (get_or messages (start + k) d).from p (omega (arith, low, high))) in
      sym (ap (filter is) whole ∙ filter-append is front (middle ++ back) ∙ ap
      (λ (ms : List MsgName). ms ++ filter is (middle ++ back)) none_before ∙ filter-append is
      middle back ∙ ap (λ (ms : List MsgName). filter is middle ++ ms) none_behind ∙ append-nil
      (filter is middle) ∙ all_between)

-- they are all from it
pub from-messages_of : (p : ℕ) (left : List MsgName)
    → All (λ (m : MsgName). m.from ≡ p) (messages_of p left)
from-messages_of p left = λ k d within. eqb-true (get_or (messages_of p left) k d).from p
    (filter_passes (λ (m : MsgName). m.from == p) left k d within)

-- they are among all
pub among-messages_of : (p : ℕ) (left : List MsgName) (m : MsgName)
    → Contains (messages_of p left) m → Contains left m
among-messages_of p left m c = from_filter (λ (x : MsgName). x.from == p) left m c

-- those of all that are from it
pub in-messages_of : (p : ℕ) (left : List MsgName) (m : MsgName) → m.from ≡ p → Contains left m
    → Contains (messages_of p left) m
in-messages_of p left m from c =
    in_filter (λ (x : MsgName). x.from == p) left m (eq-eqb m.from p from) c

-- their numbers ascend
pub rising-messages_of : (p : ℕ) (left : List MsgName) → ComeInOrder left → (i j d : ℕ) → i < j
    → j < length (messages_of p left) → get_or (map (λ (m : MsgName). m.number)
    (messages_of p left)) i d < get_or (map (λ (m : MsgName). m.number) (messages_of p left)) j d
rising-messages_of p left order i j d less within =
    let own : List MsgName = messages_of p left in
    let any : MsgName = record { from = 0; inc = 0; number = 0 } in
    let at_i : get_or (map (λ (m : MsgName). m.number) own) i d ≡ (get_or own i any).number =
    get_or-map (λ (m : MsgName). m.number) own i any d (omega (arith, less, within)) in
    let at_j : get_or (map (λ (m : MsgName). m.number) own) j d
    ≡ (get_or own j any).number = get_or-map (λ (m : MsgName). m.number) own j any d within in
    let from : (get_or own i any).from ≡ (get_or own j any).from = from-messages_of p left i any
    (omega (arith, less, within)) ∙ sym (from-messages_of p left j any within) in
    let below = AllPairs-filter (λ (x y : MsgName). x.from ≡ y.from → x.number < y.number)
    (λ (m : MsgName). m.from == p) left order.numbers i j any less within from in
    omega (arith, at_i, at_j, below)

-- where a row is empty nothing is in transit from one number to another between which none of
-- theirs stands
pub gap-messages_of : (history : List Process) (line : List Choice) (p end : ℕ) (row : List ℕ)
    (left kept : List MsgName) → kept ≡ messages_of p left → row ≡ [] → ComeInOrder left
    → end ≤ sends (events_before history line p) → HasOpenBeside history line p end row left
    → (index a b : ℕ) → a ≤ b → b ≤ end
    → ((j : ℕ) → j < index
    → (get_or (map (λ (m : MsgName). m.number) kept) j 0 < a)
    ⊎ (end ≤ get_or (map (λ (m : MsgName). m.number) kept) j 0)) → (index < length (map (λ
    (m : MsgName). m.number) kept) → b ≤ get_or (map (λ (m : MsgName). m.number) kept) index 0)
    → open_first history line p a ≡ open_first history line p b
gap-messages_of history line p end row left kept is empty order few held index a b up low passed
    next =
    let numbers : List ℕ = map (λ (m : MsgName). m.number) kept in
    let own : numbers ≡ map (λ (m : MsgName). m.number) (messages_of p left) = ap
    (map (λ (m : MsgName). m.number)) is in
    let sorted : IsNonDecreasing numbers = subst IsNonDecreasing (sym own)
    (λ i j d l within. elim (cases_lt i j) [
      | inl less ↦ omega (
        arith,
        rising-messages_of p left order i j d less
            (omega (arith, within, length-map (messages_of p left) (λ (m : MsgName). m.number))),
      )
      | inr more ↦
          let same : i ≡ j = omega (arith, l, more) in
          omega (
            arith,
            ap
                (λ (k : ℕ). get_or (map (λ (m : MsgName). m.number) (messages_of p left)) k d) same,
          )
    ]) in
    let has : HasOpen history line p end numbers = subst (HasOpen history line p end) (sym own)
    (λ q m from under sent unseen. elim (held q m from under sent unseen) [
      | inl among ↦ absurd
          (contains_nothing m.number (subst (λ (r : List ℕ). Contains r m.number) empty among))
      | inr among ↦ in_map (λ (x : MsgName). x.number) (messages_of p left) m
          (in-messages_of p left m from among)
    ]) in
    gap-to history line p end numbers few has a b up low
    (none_between numbers end index a b sorted passed low next)

-- a place that is no later and no earlier
start-is : (at j : ℕ) → at ≤ j → j ≤ at → at ≡ j
start-is at j later start = omega (arith, later, start)

-- what comes from one message on up to where the next sender begins is from the same sender, and
-- has no lower number
pub group-least : (messages : List MsgName) (at next j : ℕ) (first m : MsgName)
    → ComeInOrder messages → get_or messages at first ≡ first
    → IsPartitionPoint (λ (x : MsgName). leb x.from first.from ≡ true)
    (λ (x : MsgName). leb x.from first.from ≡ false) messages next
    → at ≤ j → j < next → j < length messages → get_or messages j m ≡ m
    → (m.from ≡ first.from) × (first.number ≤ m.number)
group-least messages at next j first m order is last later before within there =
    let here : get_or messages at m ≡ first = get_or_default messages at m first
    (omega (arith, later, within)) ∙ is in
    let low : first.from ≤ m.from = omega (
      arith,
      order.senders at j m later within,
      ap (λ (x : MsgName). x.from) here,
      ap (λ (x : MsgName). x.from) there,
    )
    in
    let high : m.from ≤ first.from = leb-true m.from first.from
    (ap (λ (x : MsgName). leb x.from first.from) (sym there)
    ∙ last.0 j m (omega arith) before)
    in
    let same : m.from ≡ first.from = omega (arith, low, high) in (
      same,
      elim (cases_lt at j) [
        | inl after ↦ omega (
          arith,
          order.numbers at j m after within (ap (λ (x : MsgName). x.from) here ∙ sym same
              ∙ ap (λ (x : MsgName). x.from) (sym there)),
          ap (λ (x : MsgName). x.number) here,
          ap (λ (x : MsgName). x.number) there,
        )
        | inr start ↦ omega (
          arith,
          ap (λ (x : MsgName). x.number) (sym here ∙ ap (λ i. get_or messages i m)
              (start-is at j later start) ∙ there),
        )
      ],
    )

-- and there is one at least
pub group-goes : (messages : List MsgName) (at next : ℕ) (first : MsgName)
    → get_or messages at first ≡ first → at < length messages
    → IsPartitionPoint (λ (x : MsgName). leb x.from first.from ≡ true)
    (λ (x : MsgName). leb x.from first.from ≡ false) messages next → at < next
group-goes messages at next first is within last = elim (cases_lt at next) [
  | inl goes ↦ goes
  | inr stays ↦ absurd (omega (
    arith,
    leb-false (get_or messages at first).from first.from (last.1 at first stays within),
    ap (λ (x : MsgName). x.from) is,
  ))
]
