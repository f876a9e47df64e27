-- Messages in transit, as each is put behind the list to its addressee.
use Rattle.std.proofs.Common.{◌≡◌, ℕ, zero, suc, ◌+◌, ◌<◌, Bool, true, false, cond, List, [], ◌∷◌}
use Rattle.std.proofs.Common.{◌++◌, length, take, get_or, map, filter, Option, Some, None, refl}
use Rattle.std.proofs.Common.{sym, ap, ◌∙◌, subst, arith, inl, inr}
use Rattle.std.specs.Prelude.{◌==◌, ◌&&◌, slice_get}
use Rattle.std.specs.List.{All}
use Rattle.std.specs.Option.{option_eq}
use Rattle.std.proofs.lemmas.Bool.{cases_eq, cases_lt, eq-eqb, ne_eqb}
use Rattle.std.proofs.lemmas.List.{append-nil, append_assoc, get_or_past, map-append}
use Rattle.std.proofs.lemmas.List.Elements.{All-head, All-tail, filter_more}
use Rattle.line_names.specs.declared.choices.Choice.{Choice}
use Rattle.line_names.specs.declared.messages.MsgName.{MsgName}
use Rattle.line_tape.specs.declared.events.Event.{Event}
use Rattle.line_tape.specs.declared.events.Event.TheVariants.{Send, Recv, Check, Mark}
use Rattle.line_tape.specs.Event.{NamesBelow}
use Rattle.line_tape.specs.History.{Process, fresh, tape_at, IsHistory}
use Rattle.line_tape.specs.Transit.{addressee, addressees, goes_between, in_transit_between}
use Rattle.line_tape.proofs.HistoryLemmas.{IsHistory-at}
use Rattle.line_rounds.specs.Channels.{channels_at}
use Rattle.line_rounds.specs.Tables.{between, with_list, IsTable}
use Rattle.line_rounds.proofs.TableLemmas.{between-of, between-other, between-same, IsTable-of}
use Rattle.line_rounds.proofs.TableLemmas.{IsTable-written}

-- the channel of the table from process p to q
pub channel-at : (history : List Process) (line : List Choice) (p q : ℕ) → p < length history → q <
    length history → between (channels_at history line) p q ≡ in_transit_between history line p q
channel-at history line = between-of (length history) (in_transit_between history line)

-- it has a row for each process, with a channel to each
pub IsTable-at : (history : List Process) (line : List Choice)
    → IsTable (length history) (channels_at history line)
IsTable-at history line = IsTable-of (length history) (in_transit_between history line)

-- whom a tape's sends name is a process
addressees_below : (n : ℕ) (tape : List Event) (k to : ℕ) → All (NamesBelow n) tape
    → slice_get (addressees tape) k ≡ Some to → to < n
addressees_below n [] k to all named = absurd (cc)
addressees_below n (Send q inc body ∷ rest) zero to all named = let same : q
    ≡ to = cc in omega (arith, same, All-head (NamesBelow n) (Send q inc body) rest all)
addressees_below n (Send q inc body ∷ rest) (suc k) to all named =
    addressees_below n rest k to (All-tail (NamesBelow n) (Send q inc body) rest all) named
addressees_below n (Recv message ∷ rest) k to all named =
    addressees_below n rest k to (All-tail (NamesBelow n) (Recv message) rest all) named
addressees_below n (Check state round ∷ rest) k to all named =
    addressees_below n rest k to (All-tail (NamesBelow n) (Check state round) rest all) named
addressees_below n (Mark from round ∷ rest) k to all named =
    addressees_below n rest k to (All-tail (NamesBelow n) (Mark from round) rest all) named

never : (b : Bool) → (b && false) ≡ false
never true = refl
never false = refl

module _ (history : List Process) (message : MsgName) where
  -- a message that has an addressee goes from a process to a process
  module _ (to : ℕ) (named : addressee history message ≡ Some to) where
    pub sender_within : message.from < length history
    sender_within = elim (cases_lt message.from (length history)) [
      | inl within ↦ within
      | inr past ↦ let none = ap
          (λ (process : Process). slice_get (addressees process.tape) message.number)
          (sym (get_or_past history message.from fresh past)) in absurd (cc (none, named))
    ]

    pub addressee_within : IsHistory history → to < length history
    addressee_within is = addressees_below (length history) (tape_at history message.from)
        message.number to (IsHistory-at history message.from sender_within is).named named

    goes_there : goes_between history message.from to message ≡ true
    goes_there =
        ap (λ (o : Option ℕ). (message.from == message.from) && option_eq ◌==◌ o (Some to)) named
        ∙ ap (λ b. b && (to == to)) (eq-eqb message.from message.from refl)
        ∙ eq-eqb to to refl

    goes_nowhere_else : (p q : ℕ) → ((p ≡ message.from) × (q ≡ to) → ⊥)
        → goes_between history p q message ≡ false
    goes_nowhere_else p q apart =
        ap (λ (o : Option ℕ). (message.from == p) && option_eq ◌==◌ o (Some q)) named
        ∙ elim (cases_eq p message.from) [
          | inl same ↦ ap (λ b. (message.from == p) && b)
              (ne_eqb to q (λ e. apart (same, sym e))) ∙ never (message.from == p)
          | inr other ↦ ap (λ b. b && (to == q)) (ne_eqb message.from p (λ e. other (sym e)))
        ]

  -- and one that has none goes nowhere
  goes_nowhere : addressee history message ≡ None → (p q : ℕ)
      → goes_between history p q message ≡ false
  goes_nowhere none p q = ap (λ (o : Option ℕ). (message.from == p) && option_eq ◌==◌ o (Some q))
      none ∙ never (message.from == p)

-- the first i messages stand behind the lists to their addressees, each as f shows it
pub record ArePut {A : Type 0} (f : MsgName → A) (history : List Process) (old : List
    (List (List A))) (messages : List MsgName) (i : ℕ) (table : List (List (List A))) : Type 0 where
  pub shape : IsTable (length history) table
  pub put : (p q : ℕ) → p < length history → q < length history → between table p q
      ≡ between old p q ++ map f (filter (goes_between history p q) (take i messages))

module _ {A : Type 0} (f : MsgName → A) (history : List Process) (old : List (List (List A)))
    (messages : List MsgName) where
  pub ArePut-start : IsTable (length history) old → ArePut f history old messages 0 old
  ArePut-start shape =
      record { shape = shape; put = λ p q p_within q_within. sym (append-nil (between old p q)) }

  module _ (i : ℕ) (table : List (List (List A))) (message : MsgName) (within : i < length messages)
      (is : message ≡ get_or messages i message)
      (before : ArePut f history old messages i table) where
    -- the messages that go from process p to q, with one more or without
    one_more : (p q : ℕ) (b : Bool) → goes_between history p q message ≡ b
        → map f (filter (goes_between history p q) (take (i + 1) messages)) ≡ map f
        (filter (goes_between history p q) (take i messages)) ++ cond b (f message ∷ []) []
    one_more p q b goes =
        let test : MsgName → Bool = goes_between history p q in
        let found : List MsgName = filter test (take i messages) in
        ap (map f) (filter_more test messages i message within ∙ ap (λ (m : MsgName). found ++ cond
        (test m) (m ∷ []) []) (sym is) ∙ ap (λ t. found ++ cond t (message ∷ []) []) goes)
        ∙ shown b found
      where
        shown : (b : Bool) (found : List MsgName)
            → map f (found ++ cond b (message ∷ []) []) ≡ map f found ++ cond b (f message ∷ []) []
        shown true found = map-append f found (message ∷ [])
        shown false found = map-append f found []

    -- the list from process p to q stays as it is
    same_put : (p q : ℕ) → p < length history → q < length history
        → goes_between history p q message ≡ false → between table p q
        ≡ between old p q ++ map f (filter (goes_between history p q) (take (i + 1) messages))
    same_put p q p_within q_within goes =
        before.put p q p_within q_within
        ∙ ap (λ (xs : List A). between old p q ++ xs) (sym (append-nil (map f
        (filter (goes_between history p q) (take i messages)))) ∙ sym (one_more p q false goes))

    -- the message goes nowhere
    pub ArePut-none : addressee history message ≡ None → ArePut f history old messages (i + 1) table
    ArePut-none none = record {
      shape = before.shape;
      put = λ p q p_within q_within. same_put p q
          p_within q_within (goes_nowhere history message none p q);
    }

    -- it is put behind the list to its addressee
    pub ArePut-more : (to : ℕ) (new : List (List (List A))) → addressee history message ≡ Some to
        → to < length history → new ≡ with_list table message.from to (between table message.from to
        ++ f message ∷ []) → ArePut f history old messages (i + 1) new
    ArePut-more to new named to_within pushed =
        let from : ℕ = message.from in
        let from_within : from < length history = sender_within history message to named in
        let list : List A = between table from to ++ f message ∷ [] in
        let row : from < length table = omega (arith, from_within, before.shape.rows) in
        let column : to < length (get_or table from []) = omega
        (arith, to_within, before.shape.columns from from_within) in
        let there : between (with_list table from to list) from to ≡ between old from to
        ++ map f (filter (goes_between history from to) (take (i + 1) messages)) =
        between-same table from to list row column
        ∙ ap (λ (xs : List A). xs ++ f message ∷ []) (before.put from to from_within to_within)
        ∙ append_assoc (between old from to)
        (map f (filter (goes_between history from to) (take i messages))) (f message ∷ [])
        ∙ ap (λ (xs : List A). between old from to ++ xs)
        (sym (one_more from to true (goes_there history message to named))) in
        subst (ArePut f history old messages (i + 1)) (sym pushed) (record {
          shape = IsTable-written table from to list row (length history) before.shape;
          put = λ p q p_within q_within.
              let other : ((p ≡ from) × (q ≡ to) → ⊥)
              → between (with_list table from to list) p q ≡ between old p q
              ++ map f (filter (goes_between history p q) (take (i + 1) messages)) =
              λ apart. between-other table from to list row p q apart ∙ same_put p q p_within
              q_within (goes_nowhere_else history message to named p q apart) in
              elim (cases_eq p from) [
                | inl p_same ↦ elim (cases_eq q to) [
                  | inl q_same ↦ subst
                      (λ (v : ℕ). between (with_list table from to list) v q
                      ≡ between old v q ++ map f
                      (filter (goes_between history v q) (take (i + 1) messages))) (sym p_same)
                      (subst (λ (v : ℕ). between (with_list table from to list) from v
                      ≡ between old from v ++ map f (filter (goes_between history from v)
                      (take (i + 1) messages))) (sym q_same) there)
                  | inr q_other ↦ other (λ e. q_other e.1)
                ]
                | inr p_other ↦ other (λ e. p_other e.0)
              ];
        })
