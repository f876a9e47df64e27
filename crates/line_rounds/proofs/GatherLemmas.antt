-- Messages in transit, as they are gathered by receiver and kept.
use Rattle.std.proofs.Common.{◌≡◌, ◌≢◌, ℕ, ◌+◌, ◌<◌, ◌≤◌, Bool, true, false, cond, List, [], ◌∷◌}
use Rattle.std.proofs.Common.{◌++◌, length, take, get_or, set, filter, Option, Some, None, refl}
use Rattle.std.proofs.Common.{sym, ap, ◌∙◌, subst, arith, inl, inr}
use Rattle.std.specs.Prelude.{◌==◌, ◌&&◌}
use Rattle.std.specs.List.{All}
use Rattle.std.specs.Option.{option_eq}
use Rattle.std.proofs.lemmas.Bool.{cases_eq, eq-eqb, eqb-true, false≢true, ne_eqb}
use Rattle.std.proofs.lemmas.List.{append-nil, length-set, get_or-set_same, get_or-set_other}
use Rattle.std.proofs.lemmas.List.{get_or_default}
use Rattle.std.proofs.lemmas.List.Elements.{All-weaker, All-push, filter_more, filter_passes}
use Rattle.line_names.specs.declared.choices.Choice.{Choice}
use Rattle.line_names.specs.declared.messages.MsgName.{MsgName}
use Rattle.line_tape.specs.History.{Process}
use Rattle.line_tape.specs.Transit.{addressee, goes_between, in_transit, in_transit_between}
use Rattle.line_laws.proofs.LetterLemmas.{open_are, parts}
use Rattle.line_rounds.specs.Channels.{channels_at}
use Rattle.line_rounds.specs.Inboxes.{goes_to, held_for, messages_from, table_held, AreFrom}
use Rattle.line_rounds.specs.Inboxes.{AreByAddressee, AreInboxes, InboxView, IsInbox}
use Rattle.line_rounds.specs.Tables.{table_of}
use Rattle.line_rounds.proofs.ChannelLemmas.{sender_within}
use Rattle.line_rounds.proofs.InboxLemmas.{held_for-none, held_for-push_other, held_for-push_same}
use Rattle.line_rounds.proofs.InboxLemmas.{AreInboxes-push}
use Rattle.line_rounds.proofs.TableLemmas.{between-of, table_of-all, IsTable-of}

-- two filters after one another
filter-both : {X : Type 0} (f g : X → Bool) (xs : List X)
    → filter f (filter g xs) ≡ filter (λ x. f x && g x) xs
filter-both f g [] = refl
filter-both {X} f g (x ∷ xs) = step (f x) (g x) refl refl (filter-both f g xs) where
  step : (a b : Bool) → f x ≡ a → g x ≡ b → filter f (filter g xs) ≡ filter (λ y. f y && g y) xs
      → filter f (cond (g x) (x ∷ filter g xs) (filter g xs)) ≡ cond (f x && g x)
      (x ∷ filter (λ y. f y && g y) xs) (filter (λ y. f y && g y) xs)
  step true true a b rest = rw (b, a) (ap (λ (ys : List X). x ∷ ys) rest)
  step true false a b rest = rw (b, a) rest
  step false true a b rest = rw (b, a) rest
  step false false a b rest = rw (b, a) rest

-- the addressee that a test finds
found_addressee : (o : Option ℕ) (q : ℕ) → option_eq ◌==◌ o (Some q) ≡ true → o ≡ Some q
found_addressee None q h = absurd (false≢true h)
found_addressee (Some to) q h = ap (λ (v : ℕ). Some v) (eqb-true to q h)

module _ (history : List Process) (messages : List MsgName) where
  module _ (i : ℕ) (rows : List (List MsgName)) (message : MsgName) (within : i < length messages)
      (is : message ≡ get_or messages i message)
      (before : AreByAddressee history (take i messages) rows) where
    -- the messages to process q, with one more or without
    one_more : (q : ℕ) (b : Bool) → goes_to history q message ≡ b
        → filter (goes_to history q) (take (i + 1) messages) ≡ filter (goes_to history q)
        (take i messages) ++ cond b (message ∷ []) []
    one_more q b goes =
        let test : MsgName → Bool = goes_to history q in
        let found : List MsgName = filter test (take i messages) in
        filter_more test messages i message within
        ∙ ap (λ (m : MsgName). found ++ cond (test m) (m ∷ []) []) (sym is)
        ∙ ap (λ t. found ++ cond t (message ∷ []) []) goes

    same_row : (q : ℕ) → q < length history → goes_to history q message ≡ false
        → get_or rows q [] ≡ filter (goes_to history q) (take (i + 1) messages)
    same_row q q_within goes = before.each q q_within
        ∙ sym (one_more q false goes ∙ append-nil (filter (goes_to history q) (take i messages)))

    -- the message goes nowhere
    pub AreGathered-other : addressee history message ≡ None
        → AreByAddressee history (take (i + 1) messages) rows
    AreGathered-other none = record {
      count = before.count;
      each = λ q q_within. same_row q q_within
          (ap (λ (o : Option ℕ). option_eq ◌==◌ o (Some q)) none);
    }

    -- it is put into the row of its addressee
    pub AreGathered-more : (to : ℕ) → addressee history message ≡ Some to → to < length history
        → AreByAddressee history (take (i + 1) messages)
        (set rows to (get_or rows to [] ++ message ∷ []))
    AreGathered-more to named to_within =
        let row : List MsgName = get_or rows to [] ++ message ∷ [] in
        let there : to < length rows = omega (arith, to_within, before.count) in
        record {
          count = length-set rows to row ∙ before.count;
          each = λ q q_within. elim (cases_eq q to) [
            | inl same ↦
                let goes : goes_to history to message ≡ true =
                ap (λ (o : Option ℕ). option_eq ◌==◌ o (Some to)) named ∙ eq-eqb to to refl in
                subst (λ (v : ℕ). get_or (set rows to row) v [] ≡ filter (goes_to history v)
                (take (i + 1) messages)) (sym same)
                (get_or-set_same rows to row [] there
                ∙ ap (λ (ms : List MsgName). ms ++ message ∷ []) (before.each to to_within)
                ∙ sym (one_more to true goes))
            | inr other ↦
                let goes : goes_to history q message ≡ false =
                ap (λ (o : Option ℕ). option_eq ◌==◌ o (Some q)) named
                ∙ ne_eqb to q (λ e. other (sym e)) in
                get_or-set_other rows to q row [] other ∙ same_row q q_within goes
          ];
        }

  -- all are from processes of the history
  pub gathered_from : (rows : List (List MsgName)) → AreByAddressee history messages rows
      → All (AreFrom (length history)) rows
  gathered_from rows are q d within =
      let q_within : q < length history = omega (arith, within, are.count) in
      let row : get_or rows q d ≡ filter (goes_to history q) messages =
      get_or_default rows q d [] within ∙ are.each q q_within in
      subst (AreFrom (length history)) (sym row)
      (All-weaker (λ (m : MsgName). goes_to history q m ≡ true)
      (λ (m : MsgName). m.from < length history)
      (λ m goes. sender_within history m q (found_addressee (addressee history m) q goes))
      (filter (goes_to history q) messages) (filter_passes (goes_to history q) messages))

  -- what is gathered of the messages in transit at a line are the channels at the line
  pub gathered_channels : (line : List Choice) (rows : List (List MsgName)) (n : ℕ)
      → n ≡ length history → messages ≡ in_transit history line
      → AreByAddressee history messages rows
      → table_of n (λ p q. messages_from p (get_or rows q [])) ≡ channels_at history line
  gathered_channels line rows n same found are =
      let lists : ℕ → ℕ → List MsgName = λ p q. messages_from p (get_or rows q []) in
      ap (λ (v : ℕ). table_of v lists) same
      ∙ table_of-all (length history) (in_transit_between history line)
      (table_of (length history) lists) (IsTable-of (length history) lists)
      (λ p q p_within q_within.
      between-of (length history) lists p q p_within q_within
      ∙ ap (messages_from p) (are.each q q_within)
      ∙ filter-both (λ (m : MsgName). m.from == p) (goes_to history q) messages
      ∙ ap (filter (goes_between history p q)) found
      ∙ parts history line history (open_are history line) p q)

-- a list of no length has nothing
pub none_of : {X : Type 0} (xs : List X) → length xs ≡ 0 → xs ≡ []
none_of [] e = refl
none_of (x ∷ xs) e = absurd (omega (arith, e))

-- the inboxes of the processes below i are kept
pub record AreKept (n : ℕ) (rows : List (List MsgName)) (i : ℕ) (inboxes : List InboxView) : Type 0
  where
    pub are : AreInboxes n inboxes
    pub below : All (λ (inbox : InboxView). inbox.to < i) inboxes
    pub held : (p q : ℕ) → q < i
        → messages_from p (held_for inboxes q) ≡ messages_from p (get_or rows q [])

module _ (n : ℕ) (rows : List (List MsgName)) where
  module _ (i : ℕ) (inboxes : List InboxView) (before : AreKept n rows i inboxes) where
    lower : All (λ (inbox : InboxView). inbox.to < i + 1) inboxes
    lower = All-weaker (λ (inbox : InboxView). inbox.to < i)
        (λ (inbox : InboxView). inbox.to < i + 1) (λ inbox b. omega (arith, b)) inboxes before.below

    -- the next process has none
    pub AreKept-skip : get_or rows i [] ≡ [] → AreKept n rows (i + 1) inboxes
    AreKept-skip none = record {
      are = before.are;
      below = lower;
      held = λ p q below. elim (cases_eq q i) [
        | inl same ↦ ap (messages_from p)
            (held_for-none inboxes q
            (All-weaker (λ (inbox : InboxView). inbox.to < i) (λ (inbox : InboxView). inbox.to ≢ q)
            (λ inbox b e. absurd (omega (arith, b, e, same))) inboxes before.below)
            ∙ sym (ap (λ (v : ℕ). get_or rows v []) same ∙ none))
        | inr other ↦ before.held p q (omega (arith, below, other))
      ];
    }

    -- the inbox of the next process
    pub AreKept-more : (inbox : InboxView) → inbox.to ≡ i → IsInbox n inbox
        → ((p : ℕ) → messages_from p inbox.messages ≡ messages_from p (get_or rows i []))
        → AreKept n rows (i + 1) (inboxes ++ inbox ∷ [])
    AreKept-more inbox is valid same_sent =
        let below : All (λ (v : InboxView). v.to < inbox.to) inboxes =
        All-weaker (λ (v : InboxView). v.to < i) (λ (v : InboxView). v.to < inbox.to)
        (λ v b. omega (arith, b, is)) inboxes before.below in
        record {
          are = AreInboxes-push inbox n inboxes before.are below valid;
          below = All-push (λ (v : InboxView). v.to < i + 1) inboxes inbox lower
              (omega (arith, is));
          held = λ p q q_below. elim (cases_eq q i) [
            | inl same ↦ ap (λ (v : ℕ). messages_from p (held_for (inboxes ++ inbox ∷ []) v)) (same
                ∙ sym is) ∙ ap (messages_from p)
                (held_for-push_same inbox inboxes below) ∙ same_sent p
                ∙ ap (λ (v : ℕ). messages_from p (get_or rows v [])) (sym same)
            | inr other ↦ ap (messages_from p)
                (held_for-push_other inbox inboxes q (λ e. other (sym e ∙ is)))
                ∙ before.held p q (omega (arith, q_below, other))
          ];
        }

-- where all are kept, so is the table
pub kept_table : (n : ℕ) (rows : List (List MsgName)) (i : ℕ) (inboxes : List InboxView) → n ≤ i
    → AreKept n rows i inboxes
    → table_held n inboxes ≡ table_of n (λ p q. messages_from p (get_or rows q []))
kept_table n rows i inboxes all kept =
    let lists : ℕ → ℕ → List MsgName = λ p q. messages_from p (get_or rows q []) in
    let held : ℕ → ℕ → List MsgName = λ p q. messages_from p (held_for inboxes q) in
    table_of-all n lists (table_held n inboxes) (IsTable-of n held)
    (λ p q p_within q_within. between-of n held p q p_within q_within
    ∙ kept.held p q (omega (arith, q_within, all)))
