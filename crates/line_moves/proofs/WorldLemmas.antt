-- Each kind of step keeps what a world keeps true, in each mode.
use Rattle.std.proofs.Common.{◌≡◌, ◌≢◌, ℕ, zero, suc, ◌<◌, Bool, true, false, cond, List, [], ◌∷◌}
use Rattle.std.proofs.Common.{◌++◌, length, drop, get_or, map, set, Some, None, refl, sym, ap, ◌∙◌}
use Rattle.std.proofs.Common.{subst, arith, inl, inr}
use Rattle.std.specs.Prelude.{◌==◌, ◌&&◌, not, if◌then◌else◌}
use Rattle.std.specs.List.{All, Contains, filter_map, slice_get}
use Rattle.std.specs.Cmp.Derive.{both_true}
use Rattle.std.proofs.lemmas.Bool.{cases_eq, cases_lt, eq-eqb, ne_eqb}
use Rattle.std.proofs.Math.ListN.{get_or-map}
use Rattle.std.proofs.lemmas.List.{append-nil, length-map, length-set, map-set, get_or-set_same}
use Rattle.std.proofs.lemmas.List.{get_or-set_other, get_or_past}
use Rattle.std.proofs.lemmas.List.FromFn.{get_or-map-range_with_len, length-map-range_with_len}
use Rattle.std.proofs.lemmas.List.Elements.{All-append, All-head, All-map, All-nil, All-push}
use Rattle.std.proofs.lemmas.List.Elements.{All-tail, filter_map-append, Contains-append_right}
use Rattle.line_names.specs.declared.choices.Choice.{Choice}
use Rattle.line_names.specs.declared.messages.MsgName.{MsgName}
use Rattle.line_tape.specs.declared.events.Event.{Event}
use Rattle.line_tape.specs.declared.events.Event.TheVariants.{Send, Recv, Check, Mark}
use Rattle.line_tape.specs.declared.items.Item.{Item}
use Rattle.line_tape.specs.declared.items.Item.TheVariants.{Message, Marker}
use Rattle.line_tape.specs.Event.{incarnations_sent, Holds}
use Rattle.line_tape.specs.Fit.{link, received_from, IsFitFifo, IsNextUnordered}
use Rattle.line_tape.specs.History.{Process, tape_at, incarnation_at, with_event}
use Rattle.line_tape.specs.Line.{IsConsistent}
use Rattle.line_tape.specs.Restart.{restarted_history}
use Rattle.line_tape.specs.Rounds.{has_check_of}
use Rattle.line_laws.proofs.CompletionLemmas.{marker_checked}
use Rattle.line_tape.proofs.EventLemmas.{tape_same}
use Rattle.line_moves.proofs.OpeningLemmas.{is_checked_now}
use Rattle.line_tape.specs.Spent.{next_name}
use Rattle.line_tape.specs.Transit.{addressees, has_received, in_transit_between}
use Rattle.line_laws.proofs.CopyLemmas.{unordered_event, unordered_restarted, copy_addressed}
use Rattle.line_laws.proofs.ForcedLemmas.{receipt_waits}
use Rattle.line_laws.proofs.LinkLemmas.{In-append_right, restart_fit, restart_link}
use Rattle.line_laws.proofs.OrderLemmas.{messages_sent, sent_is}
use Rattle.line_laws.proofs.SentLemmas.{messages, In}
use Rattle.line_tape.proofs.StayLemmas.{length_restarted}
use Rattle.line_moves.specs.declared.fates.Fate.TheVariants.{Taken, Stale, Repeated}
use Rattle.line_tape.specs.declared.modes.Mode.{Mode}
use Rattle.line_tape.specs.declared.modes.Mode.TheVariants.{Fifo, Unordered}
use Rattle.line_moves.specs.Fates.{fate_of, is_held}
use Rattle.line_moves.specs.Modes.{IsFitIn, copies_in, items_in}
use Rattle.line_moves.specs.Queues.{with_on_each, with_on_others, taken_off}
use Rattle.line_rounds.specs.Tables.{between, with_list, IsTable}
use Rattle.line_moves.specs.Restarts.{restarted_copies}
use Rattle.line_moves.specs.Worlds.{IsItemOf, message_of, messages_at, names_on, AreQueues}
use Rattle.line_moves.specs.Worlds.{HoldMessages, IsLinked, IsMessage, IsWorld}
use Rattle.line_moves.proofs.FateLemmas.{held-true}
use Rattle.line_moves.proofs.LinkLemmas.{length-with_event, first_rest, IsOrdered-check}
use Rattle.line_moves.proofs.LinkLemmas.{IsOrdered-mark, IsOrdered-round, IsOrdered-send}
use Rattle.line_moves.proofs.LinkLemmas.{IsOrdered-take}
use Rattle.line_rounds.proofs.TableLemmas.{between-other, between-same, table_of-all}
use Rattle.line_rounds.proofs.TableLemmas.{IsTable-written}

-- the history fits
pub IsFit-world : (mode : Mode) (history : List Process) (queues : List (List (List Item)))
    → IsWorld mode history queues → IsFitIn mode history
IsFit-world Fifo history queues world = world.linked.fit
IsFit-world Unordered history queues world = world.linked.fit

-- the messages on a queue of a table
pub names-at : (queues : List (List (List Item))) (p q : ℕ)
    → between (names_on queues) p q ≡ messages_at queues p q
names-at queues p q =
    let names : List Item → List MsgName = λ items. filter_map message_of items in
    ap (λ (row : List (List MsgName)). get_or row q [])
    (get_or-map (λ row. map names row) queues p []) ∙ get_or-map names (get_or queues p []) q []

-- and of all, once one queue is written
pub names-with : (queues : List (List (List Item))) (p q : ℕ) (items : List Item) → names_on
    (with_list queues p q items) ≡ with_list (names_on queues) p q (filter_map message_of items)
names-with queues p q items =
    let names : List Item → List MsgName = λ items. filter_map message_of items in
    let each : List (List Item) → List (List MsgName) = λ row. map names row in
    map-set each queues p (set (get_or queues p []) q items)
    ∙ ap (λ (row : List (List MsgName)). set (map each queues) p row)
    (map-set names (get_or queues p []) q items ∙ ap (λ (row : List (List MsgName)). set row q
    (names items)) (sym (get_or-map each queues p [])))

-- items that are messages, by their messages
names-back : (items : List Item) → All IsMessage items
    → map (λ m. Message m) (filter_map message_of items) ≡ items
names-back [] all = refl
names-back (Message message ∷ items) all = ap (λ (xs : List Item). Message message ∷ xs)
    (names-back items (All-tail IsMessage (Message message) items all))
names-back (Marker round ∷ items) all = absurd (All-head IsMessage (Marker round) items all)

-- a queue is what its link holds
pub items-world : (mode : Mode) (history : List Process) (queues : List (List (List Item)))
    → IsWorld mode history queues → (p q : ℕ) → p < length history → q < length history → p ≢ q
    → between queues p q ≡ items_in mode history (names_on (copies_in mode queues)) p q
items-world Fifo history queues world p q p_within q_within apart =
    world.linked.links p q p_within q_within apart
items-world Unordered history queues world p q p_within q_within apart = sym
    (ap (λ (ms : List MsgName). map (λ m. Message m) ms) (names-at queues p q) ∙ names-back
    (between queues p q) (world.only p q))

-- what is taken of copies is held, and new
taken-means : (held received : Bool) → (if not held then Stale else if received
    then Repeated else Taken) ≡ Taken → (held ≡ true) × (received ≡ false)
taken-means true true e = absurd (cc)
taken-means true false e = (refl, refl)
taken-means false received e = absurd (cc)

-- an item that stands at a place is among the messages
among-messages : (xs : List Item) (k : ℕ) (message : MsgName)
    → slice_get xs k ≡ Some (Message message) → Contains (filter_map message_of xs) message
among-messages [] k message e = absurd (cc)
among-messages (x ∷ xs) zero message e = let same : Message message ≡ x = cc in subst
    (λ (v : Item). Contains (filter_map message_of (v ∷ xs)) message) same (zero, omega arith, refl)
among-messages (Message m ∷ xs) (suc k) message e = Contains-append_right (m ∷ [])
    (filter_map message_of xs) message (among-messages xs k message e)
among-messages (Marker round ∷ xs) (suc k) message e = among-messages xs k message e

-- what is first on a link that keeps its order is held
first-held : (history : List Process) → IsFitFifo history
    → (p q : ℕ) (message : MsgName) (rest : List Item) → link history p q ≡ Message message ∷ rest
    → Holds (tape_at history p) message.inc message.number
first-held history fit p q message rest first =
    let tape : List Event = tape_at history p in
    let here : In message (messages (link history p q)) = subst
    (λ (xs : List Item). In message (messages xs)) (sym first) (inl refl) in
    let put = subst (In message) (sym (messages_sent history fit p q)) (In-append_right message
    (messages (received_from history q p)) (messages (link history p q)) here) in
    (sent_is p q 0 tape (incarnations_sent tape) (addressees tape) [] [] message
    (sym (append-nil (incarnations_sent tape))) (sym (append-nil (addressees tape))) put).0

-- the queues stay as a tape grows
AreQueues-kept : (history : List Process) (queues : List (List (List Item))) (at : ℕ)
    (event : Event) → AreQueues history queues → AreQueues (with_event history at event) queues
AreQueues-kept history queues at event are = record {
  shape = subst (λ (n : ℕ). IsTable n queues) (sym (length-with_event history at event)) are.shape;
  messages = are.messages;
}

module _ (history : List Process) (queues : List (List (List Item))) (are : AreQueues history
    queues) (p q : ℕ) (p_within : p < length history) (q_within : q < length history) where
  -- a row and a column of queues
  pub row : p < length queues
  row = omega (arith, are.shape.rows)

  pub column : q < length (get_or queues p [])
  column = omega (arith, are.shape.columns p p_within)

  -- another queue of messages in place of one
  AreQueues-written : (items : List Item) → All (IsItemOf p) items
      → AreQueues history (with_list queues p q items)
  AreQueues-written items all = record {
    shape = IsTable-written queues p q items row (length history) are.shape;
    messages = λ a b. elim (cases_eq a p) [
      | inl a_same ↦ elim (cases_eq b q) [
        | inl b_same ↦ subst
            (λ (v : ℕ). All (IsItemOf v) (between (with_list queues p q items) v b)) (sym a_same)
            (subst (λ (v : ℕ). All (IsItemOf p) (between (with_list queues p q items) p v))
            (sym b_same)
            (subst (λ (xs : List Item). All (IsItemOf p) xs)
            (sym (between-same queues p q items row column)) all))
        | inr b_other ↦ subst (λ (xs : List Item). All (IsItemOf a) xs)
            (sym (between-other queues p q items row a b (λ e. b_other e.1))) (are.messages a b)
      ]
      | inr a_other ↦ subst (λ (xs : List Item). All (IsItemOf a) xs)
          (sym (between-other queues p q items row a b (λ e. a_other e.0))) (are.messages a b)
    ];
  }

  -- a queue with one more message
  pub AreQueues-put : (message : MsgName) → message.from ≡ p
      → AreQueues history (with_list queues p q (between queues p q ++ Message message ∷ []))
  AreQueues-put message from = AreQueues-written (between queues p q ++ Message message ∷ [])
      (All-push (IsItemOf p) (between queues p q) (Message message) (are.messages p q) from)

  -- a queue without its first
  AreQueues-off : AreQueues history (with_list queues p q (drop 1 (between queues p q)))
  AreQueues-off = AreQueues-written (drop 1 (between queues p q))
      (dropped (between queues p q) (are.messages p q))
    where
      dropped : (xs : List Item) → All (IsItemOf p) xs → All (IsItemOf p) (drop 1 xs)
      dropped [] all = all
      dropped (x ∷ xs) all = λ k d within. all (suc k) d (omega (arith, within))

  -- the messages on the queues, with one more
  pub messages-put : (message : MsgName) (a b : ℕ)
      → messages_at (with_list queues p q (between queues p q ++ Message message ∷ [])) a b
      ≡ messages_at queues a b ++ (if (a == p) && (b == q) then message ∷ [] else [])
  messages-put message a b =
      let items : List Item = between queues p q ++ Message message ∷ [] in
      let none : List MsgName = [] in
      elim (cases_eq a p) [
        | inl a_same ↦ elim (cases_eq b q) [
          | inl b_same ↦ subst
              (λ (v : ℕ). messages_at (with_list queues p q items) v b ≡ messages_at queues v b
              ++ (if (v == p) && (b == q) then message ∷ [] else [])) (sym a_same)
              (subst (λ (v : ℕ). messages_at (with_list queues p q items) p v ≡ messages_at queues p
              v ++ (if (p == p) && (v == q) then message ∷ [] else [])) (sym b_same)
              (ap (filter_map message_of) (between-same queues p q items row column)
              ∙ filter_map-append message_of (between queues p q) (Message message ∷ [])
              ∙ ap (λ t. messages_at queues p q ++ cond t (message ∷ []) none)
              (sym (both_true (eq-eqb p p refl) (eq-eqb q q refl)))))
          | inr b_other ↦ ap (filter_map message_of) (between-other queues p q items row a b
              (λ e. b_other e.1)) ∙ sym (append-nil (messages_at queues a b))
              ∙ ap (λ t. messages_at queues a b ++ cond t (message ∷ []) none)
              (sym (and-false (a == p) (b == q) (ne_eqb b q b_other)))
        ]
        | inr a_other ↦ ap (filter_map message_of) (between-other queues p q items row a b
            (λ e. a_other e.0)) ∙ sym (append-nil (messages_at queues a b))
            ∙ ap (λ t. messages_at queues a b ++ cond (t && (b == q)) (message ∷ []) none)
            (sym (ne_eqb a p a_other))
      ]
    where
      and-false : (x y : Bool) → y ≡ false → (x && y) ≡ false
      and-false true y e = e
      and-false false y e = refl

-- a queue with one more message holds no marker
only-put : (mode : Mode) (history : List Process) (queues : List (List (List Item))) → AreQueues
    history queues → (p q : ℕ) → p < length history → q < length history → (message : MsgName)
    → HoldMessages mode queues
    → HoldMessages mode (with_list queues p q (between queues p q ++ Message message ∷ []))
only-put Fifo history queues are p q p_within q_within message all = tt
only-put Unordered history queues are p q p_within q_within message all = λ a b.
    let items : List Item = between queues p q ++ Message message ∷ [] in
    let row_is : p < length queues = row history queues are p q p_within q_within in
    elim (cases_eq a p) [
      | inl a_same ↦ elim (cases_eq b q) [
        | inl b_same ↦ subst (λ (v : ℕ). All IsMessage (between (with_list queues p q items) v b))
            (sym a_same)
            (subst (λ (v : ℕ). All IsMessage (between (with_list queues p q items) p v))
            (sym b_same)
            (subst (λ (xs : List Item). All IsMessage xs) (sym (between-same queues p q items row_is
            (column history queues are p q p_within q_within)))
            (All-push IsMessage (between queues p q) (Message message) (all p q) tt)))
        | inr b_other ↦ subst (λ (xs : List Item). All IsMessage xs)
            (sym (between-other queues p q items row_is a b (λ e. b_other e.1))) (all a b)
      ]
      | inr a_other ↦ subst (λ (xs : List Item). All IsMessage xs)
          (sym (between-other queues p q items row_is a b (λ e. a_other e.0))) (all a b)
    ]

module _ (history : List Process) (queues : List (List (List Item))) where
  -- a check of a round of colours
  pub IsWorld-turn : IsWorld Unordered history queues → (at : ℕ) (state : List ℕ) (r : ℕ) → at <
      length history → IsWorld Unordered (with_event history at (Check state (Some r))) queues
  IsWorld-turn world at state r within = record {
    queued = AreQueues-kept history queues at (Check state (Some r)) world.queued;
    linked = unordered_event history at (Check state (Some r)) (messages_at queues)
        (messages_at queues) world.linked within tt
        (λ p q p_within q_within. sym (append-nil (messages_at queues p q)));
    only = world.only;
  }

  pub IsWorld-check : (mode : Mode) → IsWorld mode history queues → (at : ℕ) (state : List ℕ)
      → at < length history → IsWorld mode (with_event history at (Check state None)) queues
  IsWorld-check mode world at state within = record {
    queued = AreQueues-kept history queues at
        (Check state None) world.queued;
    linked = linked mode world.linked;
    only = world.only;
  }
    where
      linked : (m : Mode) → IsLinked m history queues
          → IsLinked m (with_event history at (Check state None)) queues
      linked Fifo is = IsOrdered-check history queues world.queued is at state within
      linked Unordered is = unordered_event history at (Check state None) (messages_at queues)
          (messages_at queues) is within tt
          (λ p q p_within q_within. sym (append-nil (messages_at queues p q)))

  module _ (from to : ℕ) (from_within : from < length history)
      (to_within : to < length history) where
    pub IsWorld-send : (mode : Mode) → IsWorld mode history queues → (body : List ℕ)
        → IsWorld mode (with_event history from (Send to (incarnation_at history from) body))
        (with_list queues from to
        (between queues from to ++ Message (next_name history from) ∷ []))
    IsWorld-send mode world body = record {
      queued = AreQueues-kept history (with_list queues from to (between queues from to ++ Message
          (next_name history from) ∷ [])) from (Send to (incarnation_at history from) body)
          (AreQueues-put history queues world.queued from to from_within to_within
          (next_name history from) refl);
      linked = linked mode world.linked;
      only = only-put mode history queues world.queued from to from_within to_within
          (next_name history from) world.only;
    }
      where
        linked : (m : Mode) → IsLinked m history queues
            → IsLinked m (with_event history from (Send to (incarnation_at history from) body))
            (with_list queues from to
            (between queues from to ++ Message (next_name history from) ∷ []))
        linked Fifo is = IsOrdered-send history queues world.queued is from to from_within to_within
            (incarnation_at history from) body
        linked Unordered is = unordered_event history from
            (Send to (incarnation_at history from) body) (messages_at queues)
            (messages_at (with_list queues from to (between queues from to
            ++ Message (next_name history from) ∷ []))) is from_within refl
            (λ p q p_within q_within. messages-put history queues world.queued from to from_within
            to_within (next_name history from) p q)

    module _ (message : MsgName) (named : message.from ≡ from) (pick : ℕ)
        (at : slice_get (between queues from to) pick ≡ Some (Message message)) where
      -- what is taken is held by its sender
      pub IsWorld-held : from ≢ to → (mode : Mode) → IsWorld mode history queues
          → (mode ≡ Fifo → pick ≡ 0) → fate_of mode history to message ≡ Taken
          → Holds (tape_at history message.from) message.inc message.number
      IsWorld-held apart Fifo world first taken =
          let here : slice_get (between queues from to) 0 ≡ Some (Message message) = ap
          (λ (k : ℕ). slice_get (between queues from to) k) (sym (first refl)) ∙ at in
          subst (λ (v : ℕ). Holds (tape_at history v) message.inc message.number) (sym named)
          (first-held history world.linked.fit from to message (drop 1 (between queues from to))
          (sym (world.linked.links from to from_within to_within apart) ∙ first_rest
          (between queues from to) (Message message) here))
      IsWorld-held apart Unordered world first taken = held-true history message (taken-means
          (is_held history message) (has_received (tape_at history to) message) taken).0

      -- where links keep no order, it may come next
      pub next_receipt : IsWorld Unordered history queues
          → fate_of Unordered history to message ≡ Taken → IsNextUnordered history to (Recv message)
      next_receipt world taken =
          let means = taken-means (is_held history message)
          (has_received (tape_at history to) message) taken in (
            copy_addressed history
                (messages_at queues) from to message world.linked from_within to_within
                (among-messages (between queues from to) pick message at)
                (held-true history message means.0),
            means.1,
          )

      pub IsWorld-take : from ≢ to → (mode : Mode) → IsWorld mode history queues
          → (mode ≡ Fifo → pick ≡ 0) → fate_of mode history to message ≡ Taken
          → IsWorld mode (with_event history to (Recv message)) (taken_off mode queues from to)
      IsWorld-take apart Fifo world first taken = record {
        queued = AreQueues-kept history (taken_off Fifo queues from to) to (Recv message)
            (AreQueues-off history queues world.queued from to from_within to_within);
        linked = IsOrdered-take history queues world.queued world.linked from to from_within
            to_within apart message
            (ap (λ (k : ℕ). slice_get (between queues from to) k) (sym (first refl)) ∙ at) named;
        only = tt;
      }
      IsWorld-take apart Unordered world first taken = record {
        queued = AreQueues-kept history queues to (Recv message) world.queued;
        linked = unordered_event history to (Recv message) (messages_at queues)
            (messages_at queues) world.linked to_within (next_receipt world taken)
            (λ p q p_within q_within. sym (append-nil (messages_at queues p q)));
        only = world.only;
      }

      -- after a check of a round that it forces
      pub IsWorld-caught : IsWorld Unordered history queues
          → fate_of Unordered history to message ≡ Taken → (state : List ℕ) (r : ℕ)
          → IsWorld Unordered
          (with_event (with_event history to (Check state (Some r))) to (Recv message)) queues
      IsWorld-caught world taken state r =
          let e : Event = Check state (Some r) in
          let one : List Process = with_event history to e in
          let mid : IsWorld Unordered one queues = IsWorld-turn world to state r to_within in
          record {
            queued = AreQueues-kept one queues to (Recv message) mid.queued;
            linked = unordered_event one to (Recv message) (messages_at queues) (messages_at queues)
                mid.linked (omega (arith, to_within, length-with_event history to e))
                (receipt_waits history to state (Some r) message to_within (next_receipt world
                taken)) (λ p q p_within q_within. sym (append-nil (messages_at queues p q)));
            only = world.only;
          }

-- the world once a marker has come
module _ (history : List Process) (queues : List (List (List Item)))
    (world : IsWorld Fifo history queues) where
  pub IsWorld-mark : (from to r : ℕ) → from < length history → to < length history → from ≢ to
      → slice_get (between queues from to) 0 ≡ Some (Marker r)
      → has_check_of r (tape_at history to) ≡ true
      → IsWorld Fifo (with_event history to (Mark from r))
      (with_list queues from to (drop 1 (between queues from to)))
  IsWorld-mark from to r from_within to_within apart first begun = record {
    queued = AreQueues-kept history (taken_off Fifo queues from to) to (Mark from r)
        (AreQueues-off history queues world.queued from to from_within to_within);
    linked = IsOrdered-mark history queues world.queued world.linked from to from_within to_within
        apart r first begun;
    only = tt;
  }

-- the world once a check of a round has put its marker on the link to each other process
module _ (history : List Process) (queues : List (List (List Item)))
    (world : IsWorld Fifo history queues) where
  AreQueues-each : (at r : ℕ) → at < length history
      → AreQueues history (with_on_each queues at (Marker r))
  AreQueues-each at r within =
      let are = world.queued in
      let old : List (List Item) = get_or queues at [] in
      let new : List (List Item) = with_on_others old at (Marker r) in
      let row : at < length queues = omega (arith, within, are.shape.rows) in
      let here : get_or (with_on_each queues at (Marker r)) at []
      ≡ new = get_or-set_same queues at new [] row in
      record {
        shape = record {
          rows = length-set queues at new ∙ are.shape.rows;
          columns = λ a a_within. elim (cases_eq a at) [
            | inl same ↦ ap (λ (v : ℕ). length (get_or (with_on_each queues at (Marker r)) v []))
                same ∙ ap (λ (xs : List (List Item)). length xs) here
                ∙ length-map-range_with_len (λ k. get_or old k [] ++ (if at == k
                then [] else Marker r ∷ [])) 0 (length old) ∙ are.shape.columns at within
            | inr other ↦ ap (λ (xs : List (List Item)). length xs)
                (get_or-set_other queues at a new [] other) ∙ are.shape.columns a a_within
          ];
        };
        messages = λ a b. elim (cases_eq a at) [
          | inl same ↦ subst (λ (v : ℕ). All (IsItemOf v)
              (between (with_on_each queues at (Marker r)) v b)) (sym same)
              (subst (λ (xs : List (List Item)). All (IsItemOf at) (get_or xs b [])) (sym here)
              (marked at r b))
          | inr other ↦ subst (λ (xs : List (List Item)). All (IsItemOf a) (get_or xs b []))
              (sym (get_or-set_other queues at a new [] other)) (are.messages a b)
        ];
      }
    where
      put : (at r b : ℕ) → (own : Bool)
          → All (IsItemOf at) (between queues at b ++ cond own [] (Marker r ∷ []))
      put at r b true = subst (λ (xs : List Item). All (IsItemOf at) xs)
          (sym (append-nil (between queues at b))) (world.queued.messages at b)
      put at r b false =
          All-push (IsItemOf at) (between queues at b) (Marker r) (world.queued.messages at b) tt

      marked : (at r b : ℕ)
          → All (IsItemOf at) (get_or (with_on_others (get_or queues at []) at (Marker r)) b [])
      marked at r b =
          let row : List (List Item) = get_or queues at [] in
          let f : ℕ → List Item = λ k. get_or row k [] ++ (if at == k then [] else Marker r ∷ []) in
          elim (cases_lt b (length row)) [
            | inl below ↦ subst (λ (xs : List Item). All (IsItemOf at) xs)
                (sym (get_or-map-range_with_len f 0 (length row) b b [] below (omega arith)))
                (put at r b (at == b))
            | inr past ↦ subst (λ (xs : List Item). All (IsItemOf at) xs)
                (sym (get_or_past (with_on_others row at (Marker r)) b [] (omega
                (arith, past, length-map-range_with_len f 0 (length row))))) (All-nil (IsItemOf at))
          ]

  pub IsWorld-round : (at : ℕ) (state : List ℕ) (r : ℕ) → at < length history
      → has_check_of r (tape_at history at) ≡ false
      → IsWorld Fifo (with_event history at (Check state (Some r)))
      (with_on_each queues at (Marker r))
  IsWorld-round at state r within none = record {
    queued = AreQueues-kept history (with_on_each queues at (Marker r)) at (Check state (Some r))
        (AreQueues-each at r within);
    linked = IsOrdered-round history queues world.queued world.linked at within state r none;
    only = tt;
  }

  -- its sender has the check of the round
  pub marker_sent : (from to r : ℕ) → from < length history → to < length history → from ≢ to
      → slice_get (between queues from to) 0 ≡ Some (Marker r)
      → has_check_of r (tape_at history from) ≡ true
  marker_sent from to r from_within to_within apart first =
      marker_checked history from to r (subst (λ (xs : List Item). Contains xs (Marker r))
      (world.linked.links from to from_within to_within apart)
      (subst (λ (xs : List Item). Contains xs (Marker r))
      (sym (first_rest (between queues from to) (Marker r) first)) (zero, omega arith, refl)))

  -- the first item of another link is still first
  pub first_still : (at from to r s : ℕ) → at < length history → from ≢ at
      → slice_get (between queues from to) 0 ≡ Some (Marker r)
      → slice_get (between (with_on_each queues at (Marker s)) from to) 0 ≡ Some (Marker r)
  first_still at from to r s within apart first =
      ap (λ (xs : List (List Item)). slice_get (get_or xs to []) 0) (get_or-set_other queues at from
      (with_on_others (get_or queues at []) at (Marker s)) [] apart) ∙ first

  -- the marker that has a process take its check first
  pub IsWorld-forced : (from to r : ℕ) (state : List ℕ) → from < length history
      → to < length history → from ≢ to → has_check_of r (tape_at history to) ≡ false
      → slice_get (between queues from to) 0 ≡ Some (Marker r)
      → IsWorld Fifo (with_event (with_event history to (Check state (Some r))) to (Mark from r))
      (with_list (with_on_each queues to (Marker r)) from to
      (drop 1 (between (with_on_each queues to (Marker r)) from to)))
  IsWorld-forced from to r state from_within to_within apart none first =
      let e : Event = Check state (Some r) in
      let size = length-with_event history to e in
      IsWorld-mark (with_event history to e) (with_on_each queues to (Marker r))
      (IsWorld-round to state r to_within none) from to r (omega (arith, from_within, size))
      (omega (arith, to_within, size)) apart
      (first_still to from to r r to_within apart first)
      (ap (has_check_of r) (tape_same history to e to to_within refl) ∙ is_checked_now r
      (tape_at history to) e (eq-eqb r r refl))

-- there are as many lists of messages as queues
pub names-shape : (n : ℕ) (queues : List (List (List Item))) → IsTable n queues
    → IsTable n (names_on queues)
names-shape n queues is =
    let names : List Item → List MsgName = λ items. filter_map message_of items in
    let each : List (List Item) → List (List MsgName) = λ row. map names row in
    record {
      rows = length-map queues each ∙ is.rows;
      columns = λ p within. ap (λ (row : List (List MsgName)). length row) (get_or-map each queues p
          []) ∙ length-map (get_or queues p []) names ∙ is.columns p within;
    }

-- the messages of items that are messages
messages-back : (ms : List MsgName) → filter_map message_of (map (λ m. Message m) ms) ≡ ms
messages-back [] = refl
messages-back (m ∷ ms) = ap (λ (xs : List MsgName). m ∷ xs) (messages-back ms)

module _ (history : List Process) (queues new : List (List (List Item))) (line : List Choice)
    (length_is : length line ≡ length history) (consistent : IsConsistent history line)
    (queued : AreQueues history new) where
  -- after a restart at a consistent line
  pub IsWorld-restart : (mode : Mode) → IsWorld mode history queues
      → ((p q : ℕ) → p < length history → q < length history → between new p q ≡ between
      (copies_in mode queues) p q ++ map (λ m. Message m) (in_transit_between history line p q))
      → IsWorld mode (restarted_history history line) new
  IsWorld-restart mode world put = record {
    queued = record {
      shape = subst (λ (n : ℕ). IsTable n new)
          (sym (length_restarted history line length_is)) queued.shape;
      messages = queued.messages;
    };
    linked = linked mode world.linked put;
    only = only mode world.only put;
  }
    where
      only : (m : Mode) → HoldMessages m queues
          → ((p q : ℕ) → p < length history → q < length history
          → between new p q ≡ between (copies_in m queues) p q
          ++ map (λ m. Message m) (in_transit_between history line p q))
          → HoldMessages m new
      only Fifo all put = tt
      only Unordered all put = λ p q. elim (cases_lt p (length history)) [
        | inl p_within ↦ elim (cases_lt q (length history)) [
          | inl q_within ↦
              let ms : List MsgName = in_transit_between history line p q in
              subst (λ (xs : List Item). All IsMessage xs) (sym (put p q p_within q_within))
              (All-append IsMessage (between queues p q) (map (λ m. Message m) ms) (all p q)
              (All-map IsMessage (λ (m : MsgName). Message m) ms (λ k d within. tt)))
          | inr q_past ↦ subst (λ (xs : List Item). All IsMessage xs)
              (sym (get_or_past (get_or new p []) q []
              (omega (arith, q_past, queued.shape.columns p p_within)))) (All-nil IsMessage)
        ]
        | inr p_past ↦ subst (λ (lists : List (List Item)). All IsMessage (get_or lists q [])) (sym
            (get_or_past new p [] (omega (arith, p_past, queued.shape.rows)))) (All-nil IsMessage)
      ]

      linked : (m : Mode) → IsLinked m history queues
          → ((p q : ℕ) → p < length history → q < length history
          → between new p q ≡ between (copies_in m queues) p q
          ++ map (λ m. Message m) (in_transit_between history line p q))
          → IsLinked m (restarted_history history line) new
      linked Fifo is put = record {
        fit = restart_fit history line is.fit consistent length_is;
        links = λ p q p_within q_within apart.
            put p q (omega (arith, p_within, length_restarted history line length_is))
            (omega (arith, q_within, length_restarted history line length_is)) ∙ sym
            (restart_link history line is.fit consistent length_is p q);
      }
      linked Unordered is put = unordered_restarted history line (messages_at queues)
          (messages_at new) is consistent length_is (λ p q p_within q_within.
          ap (filter_map message_of) (put p q p_within q_within)
          ∙ filter_map-append message_of (between queues p q)
          (map (λ m. Message m) (in_transit_between history line p q))
          ∙ ap (λ (ms : List MsgName). messages_at queues p q ++ ms)
          (messages-back (in_transit_between history line p q)))

  -- the copies then
  pub seen-restart : (mode : Mode)
      → ((p q : ℕ) → p < length history → q < length history → between new p q ≡ between
      (copies_in mode queues) p q ++ map (λ m. Message m) (in_transit_between history line p q))
      → names_on (copies_in mode new)
      ≡ restarted_copies mode history line (names_on (copies_in mode queues))
  seen-restart Fifo put = refl
  seen-restart Unordered put =
      let transit : ℕ → ℕ → List MsgName = in_transit_between history line in
      table_of-all (length history) (λ p q. between (names_on queues) p q ++ transit p q)
      (names_on new) (names-shape (length history) new queued.shape) (λ p q p_within q_within.
      names-at new p q
      ∙ ap (λ (xs : List Item). filter_map message_of xs) (put p q p_within q_within)
      ∙ filter_map-append message_of (between queues p q) (map (λ m. Message m) (transit p q))
      ∙ ap (λ (ms : List MsgName). messages_at queues p q ++ ms) (messages-back (transit p q))
      ∙ ap (λ (ms : List MsgName). ms ++ transit p q) (sym (names-at queues p q)))
