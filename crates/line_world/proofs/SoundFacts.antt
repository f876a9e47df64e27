-- What every run keeps true of a machine, step by step.
use Rattle.std.proofs.Common.{◌≡◌, ◌≢◌, ℕ, ◌<◌, ◌≤◌, ◌+◌, Bool, true, false, cond, List, [], ◌∷◌}
use Rattle.std.proofs.Common.{◌++◌, length, drop, get_or, map, replicate, Option, Some, None, refl}
use Rattle.std.proofs.Common.{sym, ap, ◌∙◌, subst, arith, inl, inr}
use Rattle.std.specs.Prelude.{◌&&◌, not, slice_get}
use Rattle.std.specs.List.{All}
use Rattle.std.proofs.lemmas.Bool.{both_ways, cases_eq, cases_lt, false_from_ne_true, not-false}
use Rattle.std.proofs.lemmas.List.{get_or_past}
use Rattle.std.proofs.lemmas.List.Elements.{All-append, All-map, All-nil, All-weaker}
use Rattle.line_names.specs.declared.choices.Choice.{Choice}
use Rattle.line_names.specs.declared.messages.MsgName.{MsgName}
use Rattle.line_tape.specs.declared.events.Event.{Event}
use Rattle.line_tape.specs.declared.events.Event.TheVariants.{Send as SendEvent, Recv}
use Rattle.line_tape.specs.declared.events.Event.TheVariants.{Check as CheckEvent, Mark}
use Rattle.line_tape.specs.declared.items.Item.{Item}
use Rattle.line_tape.specs.declared.items.Item.TheVariants.{Message, Marker}
use Rattle.line_tape.specs.Colours.{AreColoured, IsNextColoured, colour, message_colour}
use Rattle.line_tape.specs.Copies.{IsCopy}
use Rattle.line_tape.specs.Fit.{IsNextUnordered}
use Rattle.line_tape.specs.History.{Process, fresh, incarnation_at, tape_at, with_event}
use Rattle.line_tape.specs.Line.{IsConsistent}
use Rattle.line_tape.specs.Restart.{restarted_history}
use Rattle.line_tape.specs.Rounds.{has_check_of}
use Rattle.line_tape.specs.Spent.{next_name}
use Rattle.line_tape.specs.Transit.{in_transit_between}
use Rattle.line_tape.specs.Views.{MarksView}
use Rattle.line_laws.proofs.ColourRounds.{colour_before, coloured_event, coloured_restarted}
use Rattle.line_laws.proofs.ColourRounds.{coloured_start, split_at_check}
use Rattle.line_laws.proofs.CopyLemmas.{transit_copies}
use Rattle.line_laws.proofs.ForcedLemmas.{colour_less, colour_most, forced_next, forced_open}
use Rattle.line_laws.proofs.ForcedLemmas.{message_colour_reached, receipt_waits}
use Rattle.line_tape.proofs.LineLemmas.{tape_at-past}
use Rattle.line_laws.proofs.SnapshotLemmas.{latest_reached}
use Rattle.line_rounds.specs.Tables.{between, table_of, with_list, IsTable}
use Rattle.line_rounds.proofs.TableLemmas.{between-of, IsTable-of}
use Rattle.line_moves.specs.declared.fates.Fate.{Fate}
use Rattle.line_moves.specs.declared.fates.Fate.TheVariants.{Taken, Stale as IsStale}
use Rattle.line_moves.specs.declared.fates.Fate.TheVariants.{Repeated as IsRepeated}
use Rattle.line_tape.specs.declared.modes.Mode.{Mode}
use Rattle.line_tape.specs.declared.modes.Mode.TheVariants.{Fifo, Unordered}
use Rattle.line_moves.specs.Fates.{events_of, events_taken, fate_of, forced_round, is_forced}
use Rattle.line_moves.specs.Fates.{marker_events}
use Rattle.line_moves.specs.Listed.{ListedRound, channel_in, is_begun, is_completed, listed_round}
use Rattle.line_moves.specs.Listed.{newly_listed, IsReached, IsSnapshotOf}
use Rattle.line_moves.specs.Modes.{copies_in, items_in}
use Rattle.line_moves.specs.Moves.{with_events}
use Rattle.line_moves.specs.Queues.{taken_off, with_on_each}
use Rattle.line_moves.specs.Restarts.{restarted_copies}
use Rattle.line_moves.specs.Worlds.{names_on, AreQueues, IsItemOf, IsMessage, IsWorld}
use Rattle.line_moves.proofs.LinkLemmas.{length-with_event}
use Rattle.line_moves.proofs.OpeningLemmas.{any_found, begun_by, completed_has, counted_snapshot}
use Rattle.line_moves.proofs.OpeningLemmas.{forced_none, listed_snapshot}
use Rattle.line_moves.proofs.WorldLemmas.{items-world, marker_sent, next_receipt, seen-restart}
use Rattle.line_moves.proofs.WorldLemmas.{IsFit-world, IsWorld-caught, IsWorld-check}
use Rattle.line_moves.proofs.WorldLemmas.{IsWorld-forced, IsWorld-mark, IsWorld-restart}
use Rattle.line_moves.proofs.WorldLemmas.{IsWorld-round, IsWorld-send, IsWorld-take, IsWorld-turn}
use Rattle.line_world.specs.declared.replies.Answer.{Answer}
use Rattle.line_world.specs.declared.replies.Answer.TheVariants.{Done, Refused}
use Rattle.line_world.specs.declared.replies.Reply.{Reply}
use Rattle.line_world.specs.declared.replies.Reply.TheVariants.{Sent, Took, Marked, Stale, Repeated}
use Rattle.line_world.specs.declared.replies.Reply.TheVariants.{Checked, Begun, Turned, Damaged}
use Rattle.line_world.specs.declared.replies.Reply.TheVariants.{Barred, Recovered}
use Rattle.line_world.specs.declared.replies.StepError.{StepError}
use Rattle.line_world.specs.declared.replies.StepError.TheVariants.{TapeFull}
use Rattle.line_tape.specs.declared.steps.Step.{Step}
use Rattle.line_tape.specs.declared.steps.Step.TheVariants.{Send, Deliver, Check, Begin, Turn}
use Rattle.line_tape.specs.declared.steps.Step.TheVariants.{Damage, Bar, Recover}
use Rattle.line_world.specs.Machine.{Machine, items_on, start}
use Rattle.line_world.specs.Refusals.{first_cause, is_full_for, link_causes, refusal_of}
use Rattle.line_world.specs.Runs.{Run, Takes, IsParted}
use Rattle.line_world.specs.Sound.{CompletesLast, IsSound, ReachesRounds}
use Rattle.line_world.specs.Steps.{restarted_machine, Does, RecoversWith}
use Rattle.line_world.proofs.DeliverLemmas.{at_place, copies_off}
use Rattle.line_world.proofs.GrowthFacts.{grown_completes, grown_listed, grows_check, grows_idle}
use Rattle.line_world.proofs.GrowthFacts.{grows_more, grows_next, grows_none, restart_completes}
use Rattle.line_world.proofs.GrowthFacts.{restart_listed, AreListed, Grows}
use Rattle.line_world.proofs.PaintLemmas.{forced_by, unforced}
use Rattle.line_world.proofs.SeenLemmas.{copy_kept}
use Rattle.line_world.proofs.StartLemmas.{copies-start, tape-start, IsWorld-start}
use Rattle.line_world.proofs.StepLemmas.{may_begin, may_check, may_deliver, may_send, may_turn_at}
use Rattle.line_world.proofs.StepLemmas.{turns_anew}

-- no process received a message of a greater colour than its own; links in order need no colours
abbrev pub AreColouredIn : Mode → List Process → Type 0
AreColouredIn Fifo history = Unit {0}
AreColouredIn Unordered history = AreColoured history

-- queues as a world keeps them, of which these are the copies
pub record HasQueues (mode : Mode) (history : List Process)
    (copies : List (List (List MsgName))) : Type 0 where
  pub queues : List (List (List Item))
  pub copies_are : names_on (copies_in mode queues) ≡ copies
  pub world : IsWorld mode history queues
  pub coloured : AreColouredIn mode history

-- a move of the history, and the copies then
record Moves (mode : Mode) (old new : List Process) (last next : ℕ)
    (copies : List (List (List MsgName))) : Type 0 where
  pub grows : Grows mode old new last next
  pub linked : HasQueues mode new copies

coloured_next : (mode : Mode) (history : List Process) (queues : List (List (List Item))) (at : ℕ)
    (e : Event) → at < length history → IsWorld mode history queues
    → (mode ≡ Unordered → IsNextUnordered history at e × IsNextColoured history at e)
    → AreColouredIn mode history → AreColouredIn mode (with_event history at e)
coloured_next Fifo history queues at e within world next is = tt
coloured_next Unordered history queues at e within world next is =
    coloured_event history at e world.linked.fit is within (next refl).0 (next refl).1

-- a check on a tape is one of a process
has_within : (history : List Process) (r p : ℕ) → has_check_of r (tape_at history p) ≡ true
    → p < length history
has_within history r p has = elim (cases_lt p (length history)) [
  | inl below ↦ below
  | inr past ↦ absurd (both_ways (has_check_of r (tape_at history p))
      (ap (has_check_of r) (tape_at-past history p (omega (arith, past)))) has)
]

closed_is : (a b : Bool) → (a && not b) ≡ false → a ≡ true → b ≡ true
closed_is true true e t = refl
closed_is true false e t = absurd (cc)
closed_is false b e t = absurd (cc)

begun_is : (a b c : Bool) → ((a && b) && c) ≡ true → a ≡ true
begun_is true b c e = refl
begun_is false b c e = absurd (cc)

-- where colours are kept, a round has a number from 1
round_least : (mode : Mode) (history : List Process) (r : ℕ) → mode ≡ Unordered
    → AreColouredIn mode history → is_begun history r ≡ true → 1 ≤ r
round_least Fifo history r e coloured begun = absurd (cc)
round_least Unordered history r e coloured begun =
    let found = any_found history r 0 (length history) begun in
    let less = colour_before (tape_at history found.0) _ r (coloured.rise found.0)
    (split_at_check (tape_at history found.0) r found.1) in
    omega (arith, less)

-- the links once a process has taken its check of a round
round_linked : (mode : Mode) (history : List Process) (copies : List (List (List MsgName)))
    → HasQueues mode history copies → (at : ℕ) (state : List ℕ) (r : ℕ) → at < length history
    → has_check_of r (tape_at history at) ≡ false
    → (mode ≡ Unordered → colour (tape_at history at) < r)
    → HasQueues mode (with_event history at (CheckEvent state (Some r))) copies
round_linked Fifo history copies linked at state r within none less = record {
  queues = with_on_each linked.queues at (Marker r);
  copies_are = linked.copies_are;
  world = IsWorld-round history linked.queues linked.world at state r within none;
  coloured = tt;
}
round_linked Unordered history copies linked at state r within none less = record {
  queues = linked.queues;
  copies_are = linked.copies_are;
  world = IsWorld-turn history linked.queues linked.world at state r within;
  coloured = coloured_event history at
      (CheckEvent state (Some r)) linked.world.linked.fit linked.coloured within tt (less refl);
}

module _ (mode : Mode) (history : List Process) (last : ℕ) (rounds : List ListedRound)
    (copies : List (List (List MsgName))) (are : AreListed mode history last rounds)
    (linked : HasQueues mode history copies) where
  moves_none : 0 < length history → Moves mode history history last last copies
  moves_none some = record { grows = grows_none mode history last some; linked = linked }

  moves_send : (from to : ℕ) (body : List ℕ) → from < length history → to < length history
      → Moves mode history
      (with_event history from (SendEvent to (incarnation_at history from) body)) last last
      (copies_in mode
      (with_list copies from to (between copies from to ++ next_name history from ∷ [])))
  moves_send from to body from_within to_within =
      let e : Event = SendEvent to (incarnation_at history from) body in
      let item : Item = Message (next_name history from) in
      record {
        grows = grows_idle mode history from e from_within (λ r. refl) last;
        linked = record {
          queues = with_list linked.queues from to (between linked.queues from to ++ item ∷ []);
          copies_are = copy_kept mode linked.queues from to (next_name history from) ∙ ap
              (λ (cs : List (List (List MsgName))). copies_in mode (with_list cs from to
              (between cs from to ++ next_name history from ∷ []))) linked.copies_are;
          world = IsWorld-send history linked.queues from to from_within to_within mode linked.world
              body;
          coloured = coloured_next mode history linked.queues from e from_within linked.world
              (λ m. (refl, tt)) linked.coloured;
        };
      }

  moves_check : (at : ℕ) (state : List ℕ) → at < length history
      → Moves mode history (with_event history at (CheckEvent state None)) last last copies
  moves_check at state within = record {
    grows = grows_idle mode history at (CheckEvent state None) within (λ r. refl) last;
    linked = record {
      queues = linked.queues;
      copies_are = linked.copies_are;
      world = IsWorld-check history linked.queues mode linked.world at state within;
      coloured = coloured_next mode history linked.queues at
          (CheckEvent state None) within linked.world (λ m. (tt, tt)) linked.coloured;
    };
  }

  moves_begin : (at : ℕ) (state : List ℕ) → at < length history
      → (is_begun history last && not (is_completed mode history last)) ≡ false → Moves mode history
      (with_event history at (CheckEvent state (Some (last + 1)))) last (last + 1) copies
  moves_begin at state within closed = record {
    grows = grows_next mode history at state within last
        (λ p has. closed_is (is_begun history last) (is_completed mode history last) closed
        (begun_by history last p (has_within history last p has) has));
    linked = round_linked mode history copies linked at state (last + 1) within
        (false_from_ne_true (has_check_of (last + 1) (tape_at history at))
        (λ t. let wrong = are.numbers at (last + 1) t in omega (arith, wrong)))
        (λ m. let most = colour_most (tape_at history at) last (are.numbers at) in omega
        (arith, most));
  }

  moves_turn : mode ≡ Unordered → (at : ℕ) (state : List ℕ) → at < length history
      → is_begun history last ≡ true → has_check_of last (tape_at history at) ≡ false
      → Moves mode history (with_event history at (CheckEvent state (Some last))) last last copies
  moves_turn unordered at state within begun lacks = record {
    grows = grows_check mode history at state within last begun;
    linked = round_linked mode history copies linked at state last within lacks
        (λ m. colour_less (tape_at history at) last
        (round_least mode history last unordered linked.coloured begun) (are.numbers at) lacks);
  }

-- a process takes a message that forces no check
taken_coloured : (mode : Mode) (history : List Process) (queues : List (List (List Item)))
    (from to : ℕ) (from_within : from < length history) (to_within : to < length history)
    (message : MsgName) (named : message.from ≡ from)
    (pick : ℕ) (at : slice_get (between queues from to) pick ≡ Some (Message message))
    → IsWorld mode history queues → fate_of mode history to message ≡ Taken
    → forced_round mode history to message ≡ None
    → AreColouredIn mode history → AreColouredIn mode (with_event history to (Recv message))
taken_coloured Fifo history queues from to from_within to_within message named pick at world taken
    none is =
    tt
taken_coloured Unordered history queues from to from_within to_within message named pick at world
    taken none is =
    coloured_event history to (Recv message) world.linked.fit is to_within
    (next_receipt history queues from to from_within to_within message named pick at world
    taken) (unforced history to message none)

-- or one that does
moves_caught : (mode : Mode) (history : List Process) (last : ℕ) (rounds : List ListedRound)
    (copies : List (List (List MsgName))) → AreListed mode history last rounds
    → (linked : HasQueues mode history copies)
    → (from to pick : ℕ) (state : List ℕ) → from < length history → to < length history
    → (message : MsgName) → message.from ≡ from
    → slice_get (between linked.queues from to) pick ≡ Some (Message message)
    → fate_of mode history to message ≡ Taken → (r : ℕ)
    → forced_round mode history to message ≡ Some r
    → Moves mode history (with_event (with_event history to (CheckEvent state (Some r))) to
    (Recv message)) last last copies
moves_caught Fifo history last rounds copies are linked from to pick state from_within to_within
    message named at taken r forced =
    absurd (cc)
moves_caught Unordered history last rounds copies are linked from to pick state from_within
    to_within message named at taken r forced =
    let queues : List (List (List Item)) = linked.queues in
    let by = forced_by history to message r forced in
    let colour_there : message_colour history message ≡ r = by.0 in
    let less : colour (tape_at history to) < r = by.1 in
    let greater : colour (tape_at history to) < message_colour history message = omega
    (arith, colour_there, less) in
    let colour_is : message_colour history message ≡ last = forced_open history to message greater
    last to_within (λ p s has other. are.others p s has other) in
    let round_is : r ≡ last = sym colour_there ∙ colour_is in
    let next : IsNextUnordered history to (Recv message) = next_receipt history queues from to
    from_within to_within message named pick at linked.world taken in
    let has : has_check_of last (tape_at history message.from)
    ≡ true = subst (λ (v : ℕ). has_check_of v (tape_at history message.from) ≡ true) colour_is
    (message_colour_reached history message (λ none. omega (arith, none, greater))) in
    let begun : is_begun history last ≡ true = begun_by history last message.from
    (has_within history last message.from has) has in
    let e : Event = CheckEvent state (Some last) in
    let one : List Process = with_event history to e in
    let one_within : to < length one = omega (arith, to_within, length-with_event history to e) in
    let middle : IsWorld Unordered one queues = IsWorld-turn history queues linked.world to state
    last to_within in
    let coloured : AreColoured one = coloured_event history to e linked.world.linked.fit
    linked.coloured to_within tt (omega (arith, less, round_is)) in
    subst (λ (v : ℕ). Moves Unordered history (with_event (with_event history to
    (CheckEvent state (Some v))) to (Recv message)) last last copies) (sym round_is) (record {
      grows = grows_more Unordered one to (Recv message) one_within (λ s. refl) history last last
          (grows_check Unordered history to state to_within last begun);
      linked = record {
        queues = queues;
        copies_are = linked.copies_are;
        world = IsWorld-caught history queues from to from_within to_within message named pick at
            linked.world taken state last;
        coloured = coloured_event one to (Recv message) middle.linked.fit coloured one_within
            (receipt_waits history to state (Some last) message to_within next)
            (subst (λ (v : ℕ). message_colour
            (with_event history to (CheckEvent state (Some v))) message ≤ colour
            (tape_at (with_event history to (CheckEvent state (Some v))) to)) colour_is
            (forced_next history to message greater state to_within next.0.held));
      };
    })

-- a marker comes
module _ (history : List Process) (last : ℕ) (rounds : List ListedRound) (copies : List (List (List
    MsgName))) (are : AreListed Fifo history last rounds) (linked : HasQueues Fifo history copies)
    (from to : ℕ) (state : List ℕ) (from_within : from < length history)
    (to_within : to < length history) (apart : from ≢ to) (round : ℕ)
    (first : slice_get (between linked.queues from to) 0 ≡ Some (Marker round)) where
  moves_marked : (forced : Bool) → forced ≡ is_forced history to round → Moves Fifo history
      (with_events history to (marker_events forced from state round)) last last copies
  moves_marked true is =
      let queues : List (List (List Item)) = linked.queues in
      let none : has_check_of round (tape_at history to)
      ≡ false = forced_none history to round (sym is) in
      let sent : has_check_of round (tape_at history from) ≡ true = marker_sent history queues
      linked.world from to round from_within to_within apart first in
      let same : round ≡ last = elim (cases_eq round last) [
        | inl here ↦ here
        | inr other ↦ absurd (both_ways (has_check_of round (tape_at history to)) none
            (completed_has Fifo history round to (are.others from round sent other) to_within))
      ] in
      let begun : is_begun history last ≡ true = begun_by history last from from_within
      (subst (λ (v : ℕ). has_check_of v (tape_at history from) ≡ true) same sent) in
      let e : Event = CheckEvent state (Some round) in
      let one : List Process = with_event history to e in
      record {
        grows = grows_more Fifo one to (Mark from round)
            (omega (arith, to_within, length-with_event history to e)) (λ s. refl) history last last
            (subst (λ (v : ℕ). Grows Fifo history
            (with_event history to (CheckEvent state (Some v))) last last) (sym same)
            (grows_check Fifo history to state to_within last begun));
        linked = record {
          queues = with_list (with_on_each queues to (Marker round)) from to
              (drop 1 (between (with_on_each queues to (Marker round)) from to));
          copies_are = linked.copies_are;
          world = IsWorld-forced history queues linked.world from to round state from_within
              to_within apart none first;
          coloured = tt;
        };
      }
  moves_marked false is = record {
    grows = grows_idle Fifo history to (Mark from round) to_within (λ s. refl) last;
    linked = record {
      queues = with_list linked.queues from to (drop 1 (between linked.queues from to));
      copies_are = linked.copies_are;
      world = IsWorld-mark history linked.queues linked.world from to round from_within to_within
          apart first (not-false (has_check_of round (tape_at history to)) (sym is));
      coloured = tt;
    };
  }

-- a process takes or looks at an item
moves_item : (mode : Mode) (history : List Process) (last : ℕ) (rounds : List ListedRound)
    (copies : List (List (List MsgName))) → AreListed mode history last rounds
    → (linked : HasQueues mode history copies)
    → (from to pick : ℕ) (state : List ℕ) → from < length history → to < length history → from ≢ to
    → (mode ≡ Fifo → pick ≡ 0) → (item : Item)
    → slice_get (between linked.queues from to) pick ≡ Some item → IsItemOf from item
    → Moves mode history
    (with_events history to (events_taken mode history from to state item)) last last copies
moves_item mode history last rounds copies are linked from to pick state from_within to_within apart
    first (Message message) at named =
    by_fate (fate_of mode history to message) (forced_round mode history to message) refl refl
  where
    by_fate : (fate : Fate) (forced : Option ℕ) → fate_of mode history to message ≡ fate
        → forced_round mode history to message ≡ forced → Moves mode history
        (with_events history to (events_of fate forced state message)) last last copies
    by_fate Taken None taken none = record {
      grows = grows_idle mode history to (Recv message) to_within (λ r. refl) last;
      linked = record {
        queues = taken_off mode linked.queues from to;
        copies_are = ap names_on (copies_off mode linked.queues from to) ∙ linked.copies_are;
        world = IsWorld-take history linked.queues from to from_within to_within message named pick
            at apart mode linked.world first taken;
        coloured = taken_coloured mode history linked.queues from to from_within to_within message
            named pick at linked.world taken none linked.coloured;
      };
    }
    by_fate Taken (Some r) taken forced = moves_caught mode history last rounds copies are linked
        from to pick state from_within to_within message named at taken r forced
    by_fate IsStale forced is round =
        moves_none mode history last rounds copies are linked (omega (arith, to_within))
    by_fate IsRepeated forced is round =
        moves_none mode history last rounds copies are linked (omega (arith, to_within))
moves_item Fifo history last rounds copies are linked from to pick state from_within to_within apart
    first (Marker round) at named =
    moves_marked history last rounds copies are linked from to state from_within to_within apart
    round (ap (λ (k : ℕ). slice_get (between linked.queues from to) k) (sym (first refl)) ∙ at)
    (is_forced history to round) refl
moves_item Unordered history last rounds copies are linked from to pick state from_within to_within
    apart first (Marker round) at named = absurd (at_place IsMessage
    (between linked.queues from to) pick (Marker round) (linked.world.only from to) at)

-- what every run keeps true
pub record Stands (machine : Machine) : Type 0 where
  pub linked : HasQueues machine.mode machine.history machine.copies
  pub are : AreListed machine.mode machine.history machine.last_round machine.rounds

-- and of a step
pub record Goes (old new : Machine) : Type 0 where
  pub stands : Stands new
  pub completes : CompletesLast old new

-- a completed round is a snapshot as it is listed
holds_in : (mode : Mode) (history : List Process) (queues : List (List (List Item)))
    → IsWorld mode history queues → AreColouredIn mode history → (r : ℕ)
    → is_completed mode history r ≡ true → IsSnapshotOf history (listed_round mode history r)
holds_in Fifo history queues world coloured r completed =
    listed_snapshot history r world.linked.fit completed
holds_in Unordered history queues world coloured r completed =
    counted_snapshot history r world.linked.fit coloured completed

-- the machine with these events, and with these copies
abbrev moved : Machine → ℕ → List Event → ℕ → List (List (List MsgName)) → Machine
moved old p events next copies = record {
  mode = old.mode;
  history = with_events old.history p events;
  marks = old.marks;
  last_round = next;
  rounds = old.rounds ++ newly_listed old.mode old.history (with_events old.history p events) next;
  copies = copies;
}

goes_on : (old new : Machine) (p : ℕ) (events : List Event) (next : ℕ)
    (copies : List (List (List MsgName))) → Stands old
    → Moves old.mode old.history (with_events old.history p events) old.last_round next copies
    → new ≡ moved old p events next copies → Goes old new
goes_on old new p events next copies stands moves is =
    let after : List Process = with_events old.history p events in
    subst (Goes old) (sym is) (record {
      stands = record {
        linked = moves.linked;
        are = grown_listed old.mode old.history after old.last_round next old.rounds moves.grows
            stands.are (holds_in old.mode after moves.linked.queues moves.linked.world
            moves.linked.coloured);
      };
      completes = grown_completes old.mode old.history after old.last_round next old.rounds
          moves.grows stands.are;
    })

-- where the history stays as it is
goes_same : (old : Machine) (marks : MarksView) → Stands old
    → Goes old (record old { marks = marks })
goes_same old marks stands = record {
  stands = record { linked = stands.linked; are = stands.are };
  completes = λ r was is. absurd (both_ways (is_completed old.mode old.history r) was is);
}

-- where no cause of a list holds, none of its first part does
first_part : (causes more : List (Bool × StepError)) → first_cause (causes ++ more) ≡ None
    → first_cause causes ≡ None
first_part [] more none = refl
first_part (cause ∷ causes) more none =
    elim cause.0 as (λ b. cond b (Some cause.1) (first_cause (causes ++ more)) ≡ None
    → cond b (Some cause.1) (first_cause causes) ≡ None) [
      | true ↦ λ e. absurd (cc)
      | false ↦ λ e. first_part causes more e
    ] none

-- the queues after a restart at a line
module _ (mode : Mode) (history : List Process) (queues : List (List (List Item)))
    (line : List Choice) (size : length line ≡ length history)
    (consistent : IsConsistent history line) (world : IsWorld mode history queues) where
  abbrev put : ℕ → ℕ → List Item
  put p q = between (copies_in mode queues) p q
      ++ map (λ m. Message m) (in_transit_between history line p q)

  abbrev after : List (List (List Item))
  after = table_of (length history) put

  copies_from : (m : Mode) (p q : ℕ) → All (IsItemOf p) (between (copies_in m queues) p q)
  copies_from Fifo p q = All-nil (IsItemOf p)
  copies_from Unordered p q = world.queued.messages p q

  put_from : (p q : ℕ) → All (IsItemOf p) (put p q)
  put_from p q = All-append (IsItemOf p) (between (copies_in mode queues) p q)
      (map (λ m. Message m) (in_transit_between history line p q)) (copies_from mode p q)
      (All-map (IsItemOf p) (λ (m : MsgName). Message m) (in_transit_between history line p q)
      (All-weaker (IsCopy (restarted_history history line) p q) (λ (m : MsgName). m.from ≡ p)
      (λ m is. is.from_is) (in_transit_between history line p q)
      (transit_copies history line consistent size p q)))

  after_shape : IsTable (length history) after
  after_shape = IsTable-of (length history) put

  after_queues : AreQueues history after
  after_queues = record {
    shape = after_shape;
    messages = λ p q. elim (cases_lt p (length history)) [
      | inl p_within ↦ elim (cases_lt q (length history)) [
        | inl q_within ↦ subst (λ (xs : List Item). All (IsItemOf p) xs)
            (sym (between-of (length history) put p q p_within q_within)) (put_from p q)
        | inr q_past ↦ subst (λ (xs : List Item). All (IsItemOf p) xs)
            (sym (get_or_past (get_or after p []) q []
            (omega (arith, q_past, after_shape.columns p p_within)))) (All-nil (IsItemOf p))
      ]
      | inr p_past ↦ subst (λ (row : List (List Item)). All (IsItemOf p) (get_or row q [])) (sym
          (get_or_past after p [] (omega (arith, p_past, after_shape.rows)))) (All-nil (IsItemOf p))
    ];
  }

  after_world : IsWorld mode (restarted_history history line) after
  after_world = IsWorld-restart history queues after line size consistent after_queues mode world
      (λ p q p_within q_within. between-of (length history) put p q p_within q_within)

  after_copies : names_on (copies_in mode after)
      ≡ restarted_copies mode history line (names_on (copies_in mode queues))
  after_copies = seen-restart history queues after line size consistent after_queues mode
      (λ p q p_within q_within. between-of (length history) put p q p_within q_within)

coloured_back : (mode : Mode) (history : List Process) (line : List Choice)
    → length line ≡ length history → AreColouredIn mode (restarted_history history line)
coloured_back Fifo history line size = tt
coloured_back Unordered history line size = coloured_restarted history line size

goes_back : (old : Machine) (line : List Choice) → length line ≡ length old.history
    → IsConsistent old.history line → Stands old → Goes old (restarted_machine old line)
goes_back old line size consistent stands = record {
  stands = record {
    linked = record {
      queues =
          after old.mode old.history stands.linked.queues line size consistent stands.linked.world;
      copies_are = after_copies old.mode old.history stands.linked.queues line size consistent
          stands.linked.world
          ∙ ap (λ (cs : List (List (List MsgName))). restarted_copies old.mode old.history line cs)
          stands.linked.copies_are;
      world = after_world old.mode old.history stands.linked.queues line size consistent
          stands.linked.world;
      coloured = coloured_back old.mode old.history line size;
    };
    are = restart_listed old.mode old.history line size old.last_round old.rounds stands.are;
  };
  completes = λ r was is. absurd (restart_completes old.mode old.history line size r was is);
}

-- each step that is done
goes-done : (old new : Machine) (step : Step) (reply : Reply) → Stands old
    → refusal_of old step ≡ None → Does old step reply new → Goes old new
goes-done old new (Send from to body) reply stands none does =
    let may = may_send old from to body none in
    goes_on old new from (SendEvent to (incarnation_at old.history from) body ∷ []) old.last_round
    (copies_in old.mode (with_list old.copies from to
    (between old.copies from to ++ next_name old.history from ∷ []))) stands
    (moves_send old.mode old.history old.last_round old.rounds old.copies stands.are stands.linked
    from to body may.named.from_within may.named.to_within) does.1
goes-done old new (Deliver from to pick state) reply stands none does =
    let may = may_deliver old from to pick state
    (first_part (link_causes old from to pick state) ((
      is_full_for old from to state
          (slice_get (items_on old from to) pick),
      TapeFull,
    ) ∷ []) none) in
    let queues : List (List (List Item)) = stands.linked.queues in
    let world : IsWorld old.mode old.history queues = stands.linked.world in
    let at : slice_get (between queues from to) pick ≡ Some does.item =
    ap (λ (items : List Item). slice_get items pick) (items-world old.mode old.history queues world
    from to may.named.from_within may.named.to_within may.apart)
    ∙ ap (λ (cs : List (List (List MsgName))). slice_get
    (items_in old.mode old.history cs from to) pick) stands.linked.copies_are
    ∙ does.picked in
    goes_on old new to
    (events_taken old.mode old.history from to state does.item) old.last_round old.copies stands
    (moves_item old.mode old.history old.last_round old.rounds old.copies stands.are stands.linked
    from to pick state may.named.from_within may.named.to_within may.apart may.first does.item
    at
    (at_place (IsItemOf from) (between queues from to) pick does.item
    (world.queued.messages from to) at)) does.new_is
goes-done old new (Check at state) reply stands none does =
    goes_on old new at (CheckEvent state None ∷ []) old.last_round old.copies stands
    (moves_check old.mode old.history old.last_round old.rounds old.copies stands.are
    stands.linked at state (may_check old at state none).within) does.1
goes-done old new (Begin at state) reply stands none does =
    let may = may_begin old at state none in
    goes_on old new at (CheckEvent state (Some (old.last_round + 1)) ∷ [])
    (old.last_round + 1) old.copies stands
    (moves_begin old.mode old.history old.last_round old.rounds old.copies stands.are stands.linked
    at state may.within may.closed) does.1
goes-done old new (Turn at state) reply stands none does =
    let may = may_turn_at old at state none in
    goes_on old new at
    (CheckEvent state (Some old.last_round) ∷ []) old.last_round old.copies stands
    (moves_turn old.mode old.history old.last_round old.rounds old.copies stands.are stands.linked
    may.unordered at state may.within
    (begun_is (is_begun old.history old.last_round) (not (is_completed old.mode old.history
    old.last_round)) (not (has_check_of old.last_round (tape_at old.history at))) may.may)
    (turns_anew (is_begun old.history old.last_round && not (is_completed old.mode old.history
    old.last_round)) (has_check_of old.last_round (tape_at old.history at)) may.may)) does.1
goes-done old new (Damage at check) reply stands none does =
    subst (Goes old) (sym does.1) (goes_same old _ stands)
goes-done old new (Bar at check) reply stands none does =
    subst (Goes old) (sym does.1) (goes_same old _ stands)
goes-done old new (Recover failed) reply stands none does = recovered reply does
  where
    recovered : (r : Reply) → RecoversWith old failed r new → Goes old new
    recovered (Recovered plan states incarnations) is =
        subst (Goes old) (sym is.new_is) (goes_back old plan.value.line
        is.plan_is.latest.recoverable.length_is is.plan_is.latest.recoverable.consistent stands)
    recovered (Sent message) is = absurd is
    recovered (Took message forced) is = absurd is
    recovered (Marked round forced) is = absurd is
    recovered (Stale message) is = absurd is
    recovered (Repeated message) is = absurd is
    recovered (Checked at check) is = absurd is
    recovered (Begun at check round) is = absurd is
    recovered (Turned at check round) is = absurd is
    recovered (Damaged at check) is = absurd is
    recovered (Barred at check) is = absurd is

pub goes-taken : (old new : Machine) (step : Step) (answer : Answer) → Stands old
    → Takes old step answer new → Goes old new
goes-taken old new step (Done reply) stands takes =
    goes-done old new step reply stands takes.0 takes.1
goes-taken old new step (Refused e) stands takes =
    subst (Goes old) (sym takes.1) (goes_same old old.marks stands)

-- a recovery reaches the listed rounds whose checks survive
pub reaches-taken : (old new : Machine) (step : Step) (answer : Answer) → Stands old
    → Takes old step answer new → ReachesRounds old step answer
reaches-taken old new (Send from to body) answer stands takes = tt
reaches-taken old new (Deliver from to pick state) answer stands takes = tt
reaches-taken old new (Check at state) answer stands takes = tt
reaches-taken old new (Begin at state) answer stands takes = tt
reaches-taken old new (Turn at state) answer stands takes = tt
reaches-taken old new (Damage at check) answer stands takes = tt
reaches-taken old new (Bar at check) answer stands takes = tt
reaches-taken old new (Recover failed) (Refused e) stands takes = tt
reaches-taken old new (Recover failed) (Done (Recovered plan states incarnations)) stands takes =
    All-weaker (IsSnapshotOf old.history) (IsReached old.history old.marks failed plan.value.line)
    (λ round is surviving. latest_reached old.history old.marks failed plan.value.line round.checks
    (channel_in round) takes.1.plan_is.latest is surviving) old.rounds stands.are.snapshots
reaches-taken old new (Recover failed) (Done (Sent message)) stands takes = tt
reaches-taken old new (Recover failed) (Done (Took message forced)) stands takes = tt
reaches-taken old new (Recover failed) (Done (Marked round forced)) stands takes = tt
reaches-taken old new (Recover failed) (Done (Stale message)) stands takes = tt
reaches-taken old new (Recover failed) (Done (Repeated message)) stands takes = tt
reaches-taken old new (Recover failed) (Done (Checked at check)) stands takes = tt
reaches-taken old new (Recover failed) (Done (Begun at check round)) stands takes = tt
reaches-taken old new (Recover failed) (Done (Turned at check round)) stands takes = tt
reaches-taken old new (Recover failed) (Done (Damaged at check)) stands takes = tt
reaches-taken old new (Recover failed) (Done (Barred at check)) stands takes = tt

-- no round is on the tapes at first
none : (n p r : ℕ) → has_check_of r (tape_at (replicate n fresh) p) ≡ true → ⊥
none n p r has = both_ways (has_check_of r (tape_at (replicate n fresh) p))
    (ap (has_check_of r) (tape-start n p)) has

-- the empty state
coloured_at_start : (n : ℕ) (mode : Mode) → AreColouredIn mode (replicate n fresh)
coloured_at_start n Fifo = tt
coloured_at_start n Unordered = coloured_start n

pub Stands-start : (n : ℕ) (mode : Mode) → Stands (start n mode)
Stands-start n mode =
    record {
      linked = record {
        queues = replicate n (replicate n []);
        copies_are = copies-start n mode;
        world = IsWorld-start n mode;
        coloured = coloured_at_start n mode;
      };
      are = record {
        numbers = λ p r has. absurd (none n p r has);
        others = λ p r has apart. absurd (none n p r has);
        snapshots = All-nil (IsSnapshotOf (replicate n fresh));
        numbered = record {
          earlier = All-nil (λ (round : ListedRound). round.number < 1);
          ascending
              = λ i j d near far. absurd (omega (arith, far));
        };
        unlisted = λ begun unfinished. let found = any_found (replicate n fresh) 0 0
            (length (replicate n fresh)) begun in absurd (none n found.0 0 found.1);
        told = λ p r has is. absurd (none n p r has);
      };
    }

-- a run, step by step
pub Run-stands : (old new : Machine) (steps : List Step) (answers : List Answer) → Stands old
    → Run old steps answers new → Stands new
Run-stands old new [] [] stands run = subst Stands (sym run) stands
Run-stands old new [] (answer ∷ answers) stands run = absurd run
Run-stands old new (step ∷ steps) [] stands run = absurd run
Run-stands old new (step ∷ steps) (answer ∷ answers) stands (mid, takes, run) =
    Run-stands mid new steps answers (goes-taken old mid step answer stands takes).stands run

pub sound : (machine : Machine) → Stands machine → IsSound machine
sound machine stands = record {
  fit = IsFit-world machine.mode machine.history stands.linked.queues stands.linked.world;
  snapshots = stands.are.snapshots;
  ascending = stands.are.numbered.ascending;
  greatest = stands.are.numbers;
  others = stands.are.others;
  listed = stands.are.told;
}

-- a run of more steps begins with a run of the first
pub Run-parted : (old new : Machine) (steps more : List Step) (answers : List Answer)
    → Run old (steps ++ more) answers new → IsParted old steps more answers new
Run-parted old new [] more answers run =
    record { first = []; rest = answers; mid = old; all = refl; before = refl; after = run }
Run-parted old new (step ∷ steps) more [] run = absurd run
Run-parted old new (step ∷ steps) more (answer ∷ answers) (mid, takes, run) =
    let parts = Run-parted mid new steps more answers run in
    record {
      first = answer
          ∷ parts.first;
      rest = parts.rest;
      mid = parts.mid;
      all = ap (λ (xs : List Answer). answer
          ∷ xs) parts.all;
      before = (mid, takes, parts.before);
      after = parts.after;
    }
