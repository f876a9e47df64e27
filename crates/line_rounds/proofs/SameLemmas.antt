-- What is kept of a table is the only way to keep it, so that tables are the same where what is
-- kept of them is.
use Rattle.std.proofs.Common.{◌≡◌, ◌≢◌, ℕ, suc, ◌<◌, ◌≤◌, cond, List, [], ◌∷◌, length, get_or, refl}
use Rattle.std.proofs.Common.{sym, ap, ◌∙◌, subst, arith, inl, inr}
use Rattle.std.specs.Prelude.{◌==◌}
use Rattle.std.specs.List.{All}
use Rattle.std.proofs.lemmas.Bool.{cases_eq, cases_lt, eq-eqb, ne_eqb}
use Rattle.std.proofs.lemmas.List.Elements.{All-cons, All-head, All-nil, All-tail, All-weaker}
use Rattle.line_names.specs.declared.messages.MsgName.{MsgName}
use Rattle.line_rounds.specs.Inboxes.{held_for, messages_from, table_held, AreFrom, AreInboxes}
use Rattle.line_rounds.specs.Inboxes.{ComeBySender, InboxView, IsInbox}
use Rattle.line_rounds.proofs.InboxLemmas.{filter-none, held_for-none}
use Rattle.line_rounds.proofs.TableLemmas.{between-of, IsTable-of}

-- a process below the first sender sent none of them
not_sent : (p : ℕ) (m : MsgName) (ms : List MsgName) → p < m.from → ComeBySender (m ∷ ms)
    → messages_from p (m ∷ ms) ≡ []
not_sent p m ms below by_sender =
    filter-none (λ (v : MsgName). v.from == p) (m ∷ ms) (λ k d within.
    let above : m.from ≤ (get_or (m ∷ ms) k d).from = by_sender 0 k d (omega arith) within in
    ne_eqb (get_or (m ∷ ms) k d).from p (λ e. absurd (omega (arith, below, above, e))))

-- the first sender sent the first
first_sent : (m : MsgName) (ms : List MsgName)
    → messages_from m.from (m ∷ ms) ≡ m ∷ messages_from m.from ms
first_sent m ms = ap (λ b. cond b (m ∷ messages_from m.from ms) (messages_from m.from ms))
    (eq-eqb m.from m.from refl)

no_cons : {A : Type 0} {x : A} {xs : List A} → x ∷ xs ≡ [] → ⊥
no_cons e = cc

tail_by_sender : (m : MsgName) (ms : List MsgName) → ComeBySender (m ∷ ms) → ComeBySender ms
tail_by_sender m ms by_sender i j d l within = by_sender (suc i) (suc j) d (omega (arith, l))
    (omega (arith, within))

-- messages that come by sender are the same where those of each sender are
by_sender_same : (n : ℕ) (ms ks : List MsgName) → AreFrom n ms → AreFrom n ks → ComeBySender ms
    → ComeBySender ks → ((p : ℕ) → p < n → messages_from p ms ≡ messages_from p ks) → ms ≡ ks
by_sender_same n [] [] ms_from ks_from ms_by ks_by same = refl
by_sender_same n [] (k ∷ ks) ms_from ks_from ms_by ks_by same =
    let at : [] ≡ messages_from k.from (k ∷ ks) =
    same k.from (All-head (λ (v : MsgName). v.from < n) k ks ks_from) in
    absurd (no_cons (sym (first_sent k ks) ∙ sym at))
by_sender_same n (m ∷ ms) [] ms_from ks_from ms_by ks_by same =
    let at : messages_from m.from (m ∷ ms) ≡ [] =
    same m.from (All-head (λ (v : MsgName). v.from < n) m ms ms_from) in
    absurd (no_cons (sym (first_sent m ms) ∙ at))
by_sender_same n (m ∷ ms) (k ∷ ks) ms_from ks_from ms_by ks_by same =
    let m_from : m.from < n = All-head (λ (v : MsgName). v.from < n) m ms ms_from in
    let k_from : k.from < n = All-head (λ (v : MsgName). v.from < n) k ks ks_from in
    let no_lower : m.from < k.from
    → ⊥ = λ below. no_cons (sym (first_sent m ms) ∙ same m.from m_from
    ∙ not_sent m.from k ks below ks_by) in
    let no_higher : k.from < m.from
    → ⊥ = λ above. no_cons (sym (first_sent k ks) ∙ sym (same k.from k_from)
    ∙ not_sent k.from m ms above ms_by) in
    let senders : m.from ≡ k.from = elim (cases_eq m.from k.from) [
      | inl equal ↦ equal
      | inr other ↦ elim (cases_lt m.from k.from) [
        | inl below ↦ absurd (no_lower below)
        | inr above ↦ absurd (no_higher (omega (arith, above, other)))
      ]
    ] in
    let there : m ∷ messages_from m.from ms ≡ k ∷ messages_from m.from ks =
    sym (first_sent m ms) ∙ same m.from m_from ∙ ap (λ (p : ℕ). messages_from p (k ∷ ks)) senders
    ∙ first_sent k ks ∙ ap (λ (p : ℕ). k ∷ messages_from p ks) (sym senders) in
    let firsts : m ≡ k = cc in
    let rests : messages_from m.from ms ≡ messages_from m.from ks = cc in
    let others : (p : ℕ) → p < n
    → messages_from p ms ≡ messages_from p ks = λ p within. elim (cases_eq p m.from) [
      | inl equal ↦ subst (λ (v : ℕ). messages_from v ms ≡ messages_from v ks) (sym equal) rests
      | inr other ↦
          sym (ap (λ b. cond b (m ∷ messages_from p ms) (messages_from p ms))
          (ne_eqb m.from p (λ e. other (sym e))))
          ∙ same p within
          ∙ ap (λ b. cond b (k ∷ messages_from p ks) (messages_from p ks))
          (ne_eqb k.from p (λ e. other (sym e ∙ sym senders)))
    ] in
    ap (λ (v : MsgName). v ∷ ms) firsts
    ∙ ap (λ (vs : List MsgName). k ∷ vs)
    (by_sender_same n ms ks (All-tail (λ (v : MsgName). v.from < n) m ms ms_from)
    (All-tail (λ (v : MsgName). v.from < n) k ks ks_from)
    (tail_by_sender m ms ms_by) (tail_by_sender k ks ks_by) others)

-- an inbox has a message of one of the processes
has_one : (n : ℕ) (inbox : InboxView) → IsInbox n inbox
    → ((p : ℕ) → p < n → messages_from p inbox.messages ≡ []) → ⊥
has_one n inbox is none =
    is.some (by_sender_same n inbox.messages [] is.from (All-nil (λ (v : MsgName). v.from < n))
    is.by_sender (λ i j d l within. absurd (omega (arith, within))) none)

-- the inboxes of later processes
module _ (n : ℕ) (inbox : InboxView) (rest : List InboxView) (are : AreInboxes n (inbox ∷ rest))
  where
    later : All (λ (v : InboxView). inbox.to < v.to) rest
    later k d within = are.ascend 0 (suc k) d (omega arith) (omega (arith, within))

    first_is : IsInbox n inbox
    first_is = All-head (IsInbox n) inbox rest are.each

    rest_are : AreInboxes n rest
    rest_are =
        record {
          ascend = λ i j d below within. are.ascend (suc i) (suc j) d (omega (arith, below))
              (omega (arith, within));
          each = All-tail (IsInbox n) inbox rest are.each;
        }

    held_first : held_for (inbox ∷ rest) inbox.to ≡ inbox.messages
    held_first = ap (λ b. cond b inbox.messages (held_for rest inbox.to))
        (eq-eqb inbox.to inbox.to refl)

    held_other : (q : ℕ) → q ≢ inbox.to → held_for (inbox ∷ rest) q ≡ held_for rest q
    held_other q other = ap (λ b. cond b inbox.messages (held_for rest q))
        (ne_eqb inbox.to q (λ e. other (sym e)))

    held_below : (q : ℕ) → q < inbox.to → held_for (inbox ∷ rest) q ≡ []
    held_below q below = held_for-none (inbox ∷ rest) q
        (All-cons (λ (v : InboxView). v.to ≢ q) inbox rest (λ e. absurd (omega (arith, below, e)))
        (All-weaker (λ (v : InboxView). inbox.to < v.to) (λ (v : InboxView). v.to ≢ q)
        (λ v above e. absurd (omega (arith, below, above, e))) rest later))

    held_behind : held_for rest inbox.to ≡ []
    held_behind =
        held_for-none rest inbox.to
        (All-weaker (λ (v : InboxView). inbox.to < v.to) (λ (v : InboxView). v.to ≢ inbox.to)
        (λ v above e. absurd (omega (arith, above, e))) rest later)

pub inbox_same : (x y : InboxView) → x.to ≡ y.to → x.messages ≡ y.messages → x ≡ y
inbox_same x y to messages = λ i. record { to = to i; messages = messages i }

-- inboxes are the same where they hold the same
inboxes_same : (n : ℕ) (xs ys : List InboxView) → AreInboxes n xs → AreInboxes n ys
    → ((p q : ℕ) → p < n → q < n
    → messages_from p (held_for xs q) ≡ messages_from p (held_for ys q)) → xs ≡ ys
inboxes_same n [] [] xs_are ys_are same = refl
inboxes_same n [] (y ∷ ys) xs_are ys_are same =
    let is : IsInbox n y = first_is n y ys ys_are in
    absurd (has_one n y is
    (λ p within. sym (same p y.to within is.to ∙ ap (messages_from p) (held_first n y ys ys_are))))
inboxes_same n (x ∷ xs) [] xs_are ys_are same =
    let is : IsInbox n x = first_is n x xs xs_are in
    absurd (has_one n x is (λ p within. sym (ap (messages_from p) (held_first n x xs xs_are))
    ∙ same p x.to within is.to))
inboxes_same n (x ∷ xs) (y ∷ ys) xs_are ys_are same =
    let x_is : IsInbox n x = first_is n x xs xs_are in
    let y_is : IsInbox n y = first_is n y ys ys_are in
    let no_lower : x.to < y.to
    → ⊥ =
    λ below. has_one n x x_is (λ p within. sym (ap (messages_from p) (held_first n x xs xs_are))
    ∙ same p x.to within x_is.to ∙ ap (messages_from p) (held_below n y ys ys_are x.to below)) in
    let no_higher : y.to < x.to
    → ⊥ =
    λ above. has_one n y y_is (λ p within. sym (ap (messages_from p) (held_first n y ys ys_are))
    ∙ sym (same p y.to within y_is.to) ∙ ap (messages_from p) (held_below n x xs xs_are y.to above))
    in
    let tos : x.to ≡ y.to = elim (cases_eq x.to y.to) [
      | inl equal ↦ equal
      | inr other ↦ elim (cases_lt x.to y.to) [
        | inl below ↦ absurd (no_lower below)
        | inr above ↦ absurd (no_higher (omega (arith, above, other)))
      ]
    ] in
    let messages : x.messages ≡ y.messages = by_sender_same n x.messages y.messages x_is.from
    y_is.from x_is.by_sender y_is.by_sender (λ p within.
    sym (ap (messages_from p) (held_first n x xs xs_are)) ∙ same p x.to within x_is.to
    ∙ ap (λ (q : ℕ). messages_from p (held_for (y ∷ ys) q)) tos
    ∙ ap (messages_from p) (held_first n y ys ys_are)) in
    let others : (p q : ℕ) → p < n → q < n
    → messages_from p (held_for xs q) ≡ messages_from p (held_for ys q) =
    λ p q p_within q_within. elim (cases_eq q x.to) [
      | inl equal ↦
          ap (λ (v : ℕ). messages_from p (held_for xs v)) equal
          ∙ ap (messages_from p) (held_behind n x xs xs_are)
          ∙ sym (ap (λ (v : ℕ). messages_from p (held_for ys v)) (equal ∙ tos)
          ∙ ap (messages_from p) (held_behind n y ys ys_are))
      | inr other ↦
          sym (ap (messages_from p) (held_other n x xs xs_are q other)) ∙ same p q p_within q_within
          ∙ ap (messages_from p) (held_other n y ys ys_are q (λ e. other (e ∙ sym tos)))
    ] in
    ap (λ (v : InboxView). v ∷ xs) (inbox_same x y tos messages)
    ∙ ap (λ (vs : List InboxView). y ∷ vs)
    (inboxes_same n xs ys (rest_are n x xs xs_are) (rest_are n y ys ys_are) others)

-- tables are the same just where as many processes have the same inboxes
pub tables_same : (n m : ℕ) (xs ys : List InboxView) → AreInboxes n xs → AreInboxes m ys
    → table_held n xs ≡ table_held m ys → (n ≡ m) × (xs ≡ ys)
tables_same n m xs ys xs_are ys_are same =
    let ours : ℕ → ℕ → List MsgName = λ p q. messages_from p (held_for xs q) in
    let theirs : ℕ → ℕ → List MsgName = λ p q. messages_from p (held_for ys q) in
    let many : n ≡ m = sym (IsTable-of n ours).rows
    ∙ ap (λ (t : List (List (List MsgName))). length t) same ∙ (IsTable-of m theirs).rows in
    let they_are : AreInboxes n ys = subst (λ (v : ℕ). AreInboxes v ys) (sym many) ys_are in (
      many,
      inboxes_same n xs ys xs_are they_are (λ p q p_within q_within.
          sym (between-of n ours p q p_within q_within)
          ∙ ap (λ (t : List (List (List MsgName))). get_or (get_or t p []) q []) same
          ∙ between-of m theirs p q (omega (arith, p_within, many))
          (omega (arith, q_within, many))),
    )

pub same_tables : (n m : ℕ) (xs ys : List InboxView) → n ≡ m → xs ≡ ys
    → table_held n xs ≡ table_held m ys
same_tables n m xs ys many same = λ i. table_held (many i) (same i)
