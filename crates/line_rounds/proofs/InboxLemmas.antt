-- What one process sent is a part of an inbox, and what is in an inbox is found where it stands.
use Rattle.std.proofs.Common.{◌≡◌, ◌≢◌, ℕ, zero, suc, ◌+◌, ◌-◌, ◌*◌, ◌%◌, ◌^◌, ◌<◌, ◌≤◌, Bool, true}
use Rattle.std.proofs.Common.{false, not, cond, leb, ltb, List, [], ◌∷◌, ◌++◌, length, take, drop}
use Rattle.std.proofs.Common.{get_or, filter, refl, sym, ap, ◌∙◌, arith, inl, inr, bit_or, w64}
use denote.Ref.{Bor}
use denote.Param.Members.{Mut}
use Rattle.std.specs.Fn.{Called, ComputesKey}
use Rattle.std.specs.Prelude.{◌==◌, ◌&&◌, AllPairs}
use Rattle.std.specs.Int.{bit_at}
use Rattle.std.specs.List.{All, slice_range}
use Rattle.std.specs.List.Sorted.{ties, IsNonDecreasingBy, IsPartitionPoint, IsStableByKey}
use Rattle.std.specs.Ordering.{is_lt, nat_cmp}
use Rattle.std.proofs.lemmas.Bool.{cases_eq, cases_lt, eq-eqb, leb-false, leb-true, ltb-false}
use Rattle.std.proofs.lemmas.Bool.{ltb-true, ne_eqb}
use Rattle.std.proofs.lemmas.Bool.Decides.{nat_tests}
use Rattle.std.proofs.lemmas.Fn.{always_returns_same}
use Rattle.std.proofs.lemmas.List.{append-nil, length-take, length-drop, get_or-drop, get_or-take}
use Rattle.std.proofs.lemmas.List.{get_or_default, take-append-drop}
use Rattle.std.proofs.lemmas.List.Elements.{All-head, All-push, All-tail, filter-append}
use Rattle.std.proofs.lemmas.List.Elements.{filter_agree}
use Rattle.std.proofs.lemmas.List.Folds.{drop_split}
use Rattle.std.proofs.lemmas.List.Quantifiers.{all_pairs_push}
use Rattle.std.proofs.lemmas.Nat.Bits.{bit_at_set_same, bit_at_set_other}
use Rattle.line_names.specs.declared.messages.MsgName.{MsgName}
use Rattle.line_rounds.specs.Inboxes.{held_for, messages_from, table_held, AreSentBy, AreInboxes}
use Rattle.line_rounds.specs.Inboxes.{InboxView, IsInbox}
use Rattle.line_rounds.specs.Tables.{between}
use Rattle.line_rounds.proofs.TableLemmas.{between-of, IsTable-of}

module _ {X : Type 0} (test : X → Bool) where
  -- a filter of what passes nowhere, and of what passes everywhere
  pub filter-none : (xs : List X) → All (λ x. test x ≡ false) xs → filter test xs ≡ []
  filter-none [] none = refl
  filter-none (x ∷ xs) none =
      ap (λ b. cond b (x ∷ filter test xs) (filter test xs))
      (All-head (λ y. test y ≡ false) x xs none)
      ∙ filter-none xs (All-tail (λ y. test y ≡ false) x xs none)

  pub filter-all : (xs : List X) → All (λ x. test x ≡ true) xs → filter test xs ≡ xs
  filter-all [] all = refl
  filter-all (x ∷ xs) all =
      ap (λ b. cond b (x ∷ filter test xs) (filter test xs))
      (All-head (λ y. test y ≡ true) x xs all)
      ∙ ap (λ (ys : List X). x ∷ ys) (filter-all xs (All-tail (λ y. test y ≡ true) x xs all))

-- a bit for the sender of one message more
pub bits_more : (old : ℕ) (messages : List MsgName) (i p : ℕ)
    → ((k : ℕ) (d : MsgName) → k < i → bit_at old ((get_or messages k d).from % 64) ≡ 1)
    → ((d : MsgName) → (get_or messages i d).from ≡ p)
    → (k : ℕ) (d : MsgName) → k < i + 1
    → bit_at (bit_or old (1 * 2 ^ (p % 64) % 2 ^ 64)) ((get_or messages k d).from % 64) ≡ 1
bits_more old messages i p before own k d within =
    let bit : ℕ = (get_or messages k d).from % 64 in
    elim (cases_eq bit (p % 64)) [
      | inl same ↦ ap (bit_at (bit_or old (1 * 2 ^ (p % 64) % 2 ^ 64))) same
          ∙ bit_at_set_same w64 old (p % 64) (omega arith)
      | inr apart ↦
          let other : k ≢ i = λ e. apart (ap (λ (j : ℕ). (get_or messages j d).from % 64) e
          ∙ ap (λ (q : ℕ). q % 64) (own d)) in
          bit_at_set_other w64 old (p % 64) (omega arith) bit apart
          ∙ before k d (omega (arith, within, other))
    ]

-- whose bit is not set sent none of them
pub none_sent : (bits : ℕ) (messages : List MsgName) (p : ℕ) → AreSentBy bits messages
    → bit_at bits (p % 64) ≡ 0 → messages_from p messages ≡ []
none_sent bits messages p sent absent =
    filter-none (λ (m : MsgName). m.from == p) messages (λ k d within.
    ne_eqb (get_or messages k d).from p (λ e.
    absurd (omega (arith, absent, ap (λ (q : ℕ). bit_at bits (q % 64)) e, sent k d within))))

-- neither of two numbers is less just where they are the same
ties_at : (p q : ℕ) → (not (is_lt (nat_cmp p q)) && not (is_lt (nat_cmp q p))) ≡ (q == p)
ties_at p q = grind (arith, nat_tests)

-- the messages of process p stand between those of the processes below and those of the ones above
module _ (messages : List MsgName) (p start end : ℕ)
    (first : IsPartitionPoint (λ (m : MsgName). ltb m.from p ≡ true)
    (λ (m : MsgName). ltb m.from p ≡ false) messages start)
    (last : IsPartitionPoint (λ (m : MsgName). leb m.from p ≡ true)
    (λ (m : MsgName). leb m.from p ≡ false) messages end)
    (start_within : start ≤ length messages) where
  pub part_ascends : start ≤ end
  part_ascends = elim (cases_lt end start) [
    | inl below ↦
        let any : MsgName = record { from = 0; inc = 0; number = 0 } in
        let low = ltb-true (get_or messages end any).from p (first.0 end any (omega arith) below) in
        let high = leb-false (get_or messages end any).from p
        (last.1 end any (omega arith) (omega (arith, below, start_within))) in
        absurd (omega (arith, low, high))
    | inr above ↦ above
  ]

  pub part_sent : end ≤ length messages → slice_range messages start end ≡ messages_from p messages
  part_sent end_within =
      let is : MsgName → Bool = λ (m : MsgName). m.from == p in
      let front : List MsgName = take start messages in
      let middle : List MsgName = slice_range messages start end in
      let back : List MsgName = drop end messages in
      let whole : messages ≡ front ++ (middle ++ back) =
      sym (take-append-drop start messages)
      ∙ ap (λ (ms : List MsgName). front ++ ms) (drop_split messages start end part_ascends) in
      let none_before : filter is front ≡ [] = filter-none is front (λ k d k_within.
      let below : k < start = omega (arith, k_within, length-take start messages) in
      let low = ltb-true (get_or messages k d).from p (first.0 k d (omega arith) below) in
      ap (λ (m : MsgName). m.from == p) (get_or-take start messages k d below)
      ∙ ne_eqb (get_or messages k d).from p (λ e. absurd (omega (arith, low, e)))) in
      let none_behind : filter is back ≡ [] = filter-none is back (λ k d k_within.
      let within : end + k < length messages = omega (arith, k_within, length-drop end messages) in
      let high = leb-false (get_or messages (end + k) d).from p
      (last.1 (end + k) d (omega arith) within) in
      ap (λ (m : MsgName). m.from == p) (get_or-drop end messages k d)
      ∙ ne_eqb (get_or messages (end + k) d).from p (λ e. absurd (omega (arith, high, e)))) in
      let all_between : filter is middle ≡ middle = filter-all is middle (λ k d k_within.
      let inside : k < end - start =
      omega (arith, k_within, length-take (end - start) (drop start messages)) in
      let within : start + k < length messages = omega (arith, inside, end_within) in
      let low = ltb-false (get_or messages (start + k) d).from p
      (first.1 (start + k) d (omega arith) within) in
      let high = leb-true (get_or messages (start + k) d).from p
      (last.0 (start + k) d (omega arith) (omega (arith, inside))) in
      ap (λ (m : MsgName). m.from == p) (get_or-take (end - start) (drop start messages) k d inside
      ∙ get_or-drop start messages k d)
      ∙ eq-eqb (get_or messages (start + k) d).from p (omega (arith, low, high))) in
      sym (ap (filter is) whole
      ∙ filter-append is front (middle ++ back)
      ∙ ap (λ (ms : List MsgName). ms ++ filter is (middle ++ back)) none_before
      ∙ filter-append is middle back
      ∙ ap (λ (ms : List MsgName). filter is middle ++ ms) none_behind
      ∙ append-nil (filter is middle)
      ∙ all_between)

-- no inbox is of process q
pub held_for-none : (inboxes : List InboxView) (q : ℕ)
    → All (λ (inbox : InboxView). inbox.to ≢ q) inboxes → held_for inboxes q ≡ []
held_for-none [] q others = refl
held_for-none (inbox ∷ rest) q others =
    ap (λ b. cond b inbox.messages (held_for rest q))
    (ne_eqb inbox.to q (All-head (λ (i : InboxView). i.to ≢ q) inbox rest others))
    ∙ held_for-none rest q (All-tail (λ (i : InboxView). i.to ≢ q) inbox rest others)

-- the first inbox of process q
pub held_for-at : (inboxes : List InboxView) (i q : ℕ) (d : InboxView) → i < length inboxes
    → ((k : ℕ) → k < i → (get_or inboxes k d).to ≢ q) → (get_or inboxes i d).to ≡ q
    → held_for inboxes q ≡ (get_or inboxes i d).messages
held_for-at [] i q d within others is = absurd (omega (arith, within))
held_for-at (inbox ∷ rest) zero q d within others is =
    ap (λ b. cond b inbox.messages (held_for rest q)) (eq-eqb inbox.to q is)
held_for-at (inbox ∷ rest) (suc i) q d within others is =
    ap (λ b. cond b inbox.messages (held_for rest q)) (ne_eqb inbox.to q (others 0 (omega arith)))
    ∙ held_for-at rest i q d (omega (arith, within))
    (λ k below. others (suc k) (omega (arith, below))) is

-- one more inbox, behind those of other processes
module _ (inbox : InboxView) where
  pub held_for-push_same : (inboxes : List InboxView)
      → All (λ (i : InboxView). i.to < inbox.to) inboxes
      → held_for (inboxes ++ inbox ∷ []) inbox.to ≡ inbox.messages
  held_for-push_same [] below = ap (λ b. cond b inbox.messages []) (eq-eqb inbox.to inbox.to refl)
  held_for-push_same (first ∷ rest) below =
      let lower : first.to < inbox.to = All-head (λ (i : InboxView). i.to < inbox.to) first rest
      below in
      ap (λ b. cond b first.messages (held_for (rest ++ inbox ∷ []) inbox.to))
      (ne_eqb first.to inbox.to (λ e. absurd (omega (arith, lower, e))))
      ∙ held_for-push_same rest (All-tail (λ (i : InboxView). i.to < inbox.to) first rest below)

  pub held_for-push_other : (inboxes : List InboxView) (q : ℕ) → inbox.to ≢ q
      → held_for (inboxes ++ inbox ∷ []) q ≡ held_for inboxes q
  held_for-push_other [] q other = ap (λ b. cond b inbox.messages []) (ne_eqb inbox.to q other)
  held_for-push_other (first ∷ rest) q other =
      ap (λ (ms : List MsgName). cond (first.to == q) first.messages ms)
      (held_for-push_other rest q other)

  pub AreInboxes-push : (n : ℕ) (inboxes : List InboxView) → AreInboxes n inboxes
      → All (λ (i : InboxView). i.to < inbox.to) inboxes → IsInbox n inbox
      → AreInboxes n (inboxes ++ inbox ∷ [])
  AreInboxes-push n inboxes are below is = record {
    ascend = all_pairs_push (λ (a b : InboxView). a.to < b.to) inboxes inbox are.ascend below;
    each = All-push (IsInbox n) inboxes inbox are.each is;
  }

-- inboxes that ascend strictly don't fall
pub inboxes_in_order : (inboxes : List InboxView)
    → AllPairs (λ (a b : InboxView). a.to < b.to) inboxes
    → IsNonDecreasingBy (λ (i : InboxView). i.to) inboxes
inboxes_in_order inboxes ascend i j d l within = elim (cases_lt i j) [
  | inl below ↦ let less = ascend i j d below within in omega (arith, less)
  | inr above ↦ let same : i ≡ j =
      omega (arith, l, above) in omega (arith, ap (λ (k : ℕ). (get_or inboxes k d).to) same)
]

-- the inbox of a process that stands at some place is the one that is found
pub held_here : (inboxes : List InboxView) (place to : ℕ) (inbox : InboxView)
    → AllPairs (λ (a b : InboxView). a.to < b.to) inboxes → place < length inboxes
    → inbox ≡ get_or inboxes place inbox → inbox.to ≡ to → held_for inboxes to ≡ inbox.messages
held_here inboxes place to inbox ascend within is same =
    let own : (get_or inboxes place inbox).to ≡ to = ap (λ (i : InboxView). i.to) (sym is) ∙ same in
    held_for-at inboxes place to inbox within
    (λ k below e. let less = ascend k place inbox below within in
    absurd (omega (arith, less, own, e))) own
    ∙ ap (λ (i : InboxView). i.messages) (sym is)

-- what a search finds at the place where the inboxes of the processes below end
module _ (inboxes : List InboxView) (to place : ℕ)
    (point : IsPartitionPoint (λ (i : InboxView). ltb i.to to ≡ true)
    (λ (i : InboxView). ltb i.to to ≡ false) inboxes place) where
  below_place : (k : ℕ) (d : InboxView) → k < place → (get_or inboxes k d).to < to
  below_place k d below = ltb-true (get_or inboxes k d).to to (point.0 k d (omega arith) below)

  module _ (inbox : InboxView) (within : place < length inboxes)
      (is : inbox ≡ get_or inboxes place inbox) where
    pub held_found : inbox.to ≡ to → held_for inboxes to ≡ inbox.messages
    held_found same =
        held_for-at inboxes place to inbox within
        (λ k below e. absurd (omega (arith, below_place k inbox below, e)))
        (ap (λ (i : InboxView). i.to) (sym is) ∙ same)
        ∙ ap (λ (i : InboxView). i.messages) (sym is)

    pub held_lost : AllPairs (λ (a b : InboxView). a.to < b.to) inboxes → inbox.to ≢ to
        → held_for inboxes to ≡ []
    held_lost ascend other = held_for-none inboxes to (λ k d k_within. elim (cases_lt k place) [
      | inl below ↦ λ e. absurd (omega (arith, below_place k d below, e))
      | inr above ↦
          let here : inbox.to ≡ (get_or inboxes place d).to =
          ap (λ (i : InboxView). i.to) (is ∙ get_or_default inboxes place inbox d within) in
          let least = ltb-false (get_or inboxes place d).to to
          (point.1 place d (omega arith) within) in
          let behind = inboxes_in_order inboxes ascend place k d above k_within in
          λ e. absurd (other (omega (arith, here, least, behind, e)))
    ])

  pub held_past : length inboxes ≤ place → held_for inboxes to ≡ []
  held_past past =
      held_for-none inboxes to
      (λ k d k_within e. absurd (omega (arith, below_place k d (omega (arith, k_within, past)), e)))

-- a list of the table that inboxes make
pub between_held : (n : ℕ) (inboxes : List InboxView) (table : List (List (List MsgName))) (p q : ℕ)
    → table_held n inboxes ≡ table → p < length table → q < length (get_or table p [])
    → messages_from p (held_for inboxes q) ≡ between table p q
between_held n inboxes table p q is p_within q_within =
    let lists : ℕ → ℕ → List MsgName = λ v w. messages_from v (held_for inboxes w) in
    let p_below : p < n =
    omega (
      arith,
      p_within,
      (IsTable-of n lists).rows,
      ap
          (λ (t : List (List (List MsgName))). length t) is,
    ) in
    let q_below : q < n =
    omega (
      arith,
      q_within,
      (IsTable-of n lists).columns p p_below,
      ap
          (λ (t : List (List (List MsgName))). length (get_or t p [])) is,
    ) in
    sym (between-of n lists p q p_below q_below)
    ∙ ap (λ (t : List (List (List MsgName))). between t p q) is

-- after a stable sort by sender each process's messages are as they were
pub stable_sent : {F : Type 0} {g : Mut F (Bor MsgName × Unit {0}) ℕ} {f : F} (xs ys : List MsgName)
    → ((key : MsgName → ℕ) → ComputesKey g key f → IsStableByKey key nat_cmp xs ys)
    → ((a : Bor MsgName × Unit {0}) (r : ℕ) (f' : F) → Called g f a r f'
    → (r ≡ a.0.now.from) × (f' ≡ f)) → (p : ℕ) → messages_from p ys ≡ messages_from p xs
stable_sent {g = g} {f = f} xs ys stable calls p =
    let any : MsgName = record { from = p; inc = 0; number = 0 } in
    let tied : MsgName → Bool = ties (λ (a b : MsgName). is_lt (nat_cmp a.from b.from)) any in
    let same : (m : MsgName) → tied m ≡ (m.from == p) = λ m. ties_at p m.from in
    filter_agree (λ (m : MsgName). m.from == p) tied (λ m. sym (same m)) ys
    ∙ stable (λ (m : MsgName). m.from) (always_returns_same g (λ a r. r ≡ a.0.now.from) f calls) any
    ∙ filter_agree tied (λ (m : MsgName). m.from == p) same xs
