-- A world without an order of links once a round of colours is begun, once a process turns to it,
-- and once a message has it do so.
use Rattle.std.proofs.Common.{◌≡◌, ℕ, suc, ◌<◌, ◌≤◌, ◌+◌, true, false, cond, List, [], ◌∷◌, ◌++◌}
use Rattle.std.proofs.Common.{length, map, Option, Some, None, refl, sym, ap, ◌∙◌, subst, arith}
use Rattle.std.proofs.Common.{inl, inr}
use Rattle.std.specs.Prelude.{◌==◌, ◌&&◌, not}
use Rattle.std.specs.List.{range_with_len, slice_get}
use Rattle.std.proofs.lemmas.Bool.{cases_eq, false_from_ne_true}
use Rattle.line_names.specs.declared.messages.MsgName.{MsgName}
use Rattle.line_tape.specs.declared.events.Event.{Event}
use Rattle.line_tape.specs.declared.events.Event.TheVariants.{Recv, Check}
use Rattle.line_tape.specs.declared.items.Item.{Item}
use Rattle.line_tape.specs.declared.items.Item.TheVariants.{Message}
use Rattle.line_tape.specs.Colours.{colour, message_colour}
use Rattle.line_tape.specs.Event.{Holds}
use Rattle.line_tape.specs.Fit.{IsSentTo}
use Rattle.line_tape.specs.History.{Process, tape_at, with_event}
use Rattle.line_tape.specs.Rounds.{has_check_of, check_line, check_index, checks_of, is_check_of}
use Rattle.line_tape.specs.Rounds.{is_checked}
use Rattle.line_tape.specs.Transit.{in_transit_between}
use Rattle.line_laws.proofs.ColourRounds.{colour_before, split_at_check}
use Rattle.line_laws.proofs.CompletionLemmas.{check_of_push, checked_idle}
use Rattle.line_laws.proofs.CopyLemmas.{sent_to_event}
use Rattle.line_laws.proofs.ForcedLemmas.{colour_less, colour_most, forced_new, forced_next}
use Rattle.line_laws.proofs.ForcedLemmas.{forced_open, receipt_waits}
use Rattle.line_tape.proofs.EventLemmas.{tape_same, tape_other}
use Rattle.line_laws.proofs.RoundLines.{checked_has, round_is_line}
use Rattle.line_laws.proofs.SnapshotLemmas.{event_transit}
use Rattle.line_rounds.specs.Kept.{ProcessTurns, AreTurned}
use Rattle.line_rounds.specs.Turning.{TurningView, IsTurning}
use Rattle.line_moves.specs.declared.fates.Fate.TheVariants.{Taken}
use Rattle.line_tape.specs.declared.modes.Mode.TheVariants.{Unordered}
use Rattle.line_moves.specs.Fates.{fate_of, forced_round}
use Rattle.line_moves.specs.Listed.{ListedRound, channel_table, is_begun, is_completed}
use Rattle.line_moves.specs.Listed.{listed_round, newly_listed}
use Rattle.line_moves.specs.Openings.{OpenView, left_open, newly_closed, opened_by, opened_turning}
use Rattle.line_moves.specs.Openings.{IsRunning}
use Rattle.line_rounds.specs.Tables.{between}
use Rattle.line_moves.specs.Worlds.{AreRounds, IsPainted, IsWorld}
use Rattle.line_moves.proofs.LinkLemmas.{length-with_event}
use Rattle.line_world.proofs.MarkerFacts.{begun_listed, begun_running, begun_settled, turned_listed}
use Rattle.line_world.proofs.MarkerFacts.{turned_running, turned_settled}
use Rattle.line_moves.proofs.OpenFacts.{map_cells}
use Rattle.line_moves.proofs.OpeningLemmas.{any_found, counted_snapshot, AreRounds-kept}
use Rattle.line_moves.proofs.OpeningLemmas.{IsOpening-unordered}
use Rattle.line_world.proofs.PaintLemmas.{forced_by, painted_event, painted_turn}
use Rattle.line_moves.proofs.WorldLemmas.{next_receipt, IsWorld-caught, IsWorld-turn}

-- a round that is on every tape is listed as before, whatever comes that is no check of it
listed_kept : (history : List Process) (at : ℕ) (e : Event) (r : ℕ) → at < length history
    → is_check_of r e ≡ false → is_checked history r ≡ true
    → listed_round Unordered (with_event history at e) r ≡ listed_round Unordered history r
listed_kept history at e r within other checked =
    let n : ℕ = length history in
    let new : List Process = with_event history at e in
    let size : length new ≡ n = length-with_event history at e in
    let indices : List ℕ = checks_of history r in
    let same_checks : checks_of new r ≡ indices =
    ap (λ (v : ℕ). map (λ q. check_index r (tape_at new q)) (range_with_len 0 v)) size
    ∙ map_cells (λ q. check_index r (tape_at new q)) (λ q. check_index r (tape_at history q)) 0 n
    (λ q low high. elim (cases_eq q at) [
      | inl same ↦ ap (check_index r) (tape_same history at e q within same) ∙ check_of_push
          (tape_at history q) e r (checked_has history r q checked (omega (arith, high)))
      | inr apart ↦ ap (check_index r) (tape_other history at e q apart)
    ]) in
    let before : ℕ → ℕ
    → List MsgName = λ p q. in_transit_between history (check_line indices) p q in
    let after : ℕ → ℕ → List MsgName = λ p q. in_transit_between new (check_line indices) p q in
    let same_channels : channel_table n after ≡ channel_table n before =
    map_cells (λ p. map (λ q. cond (p == q) [] (after p q)) (range_with_len 0 n))
    (λ p. map (λ q. cond (p == q) [] (before p q)) (range_with_len 0 n)) 0 n (λ p p_low p_high.
    map_cells (λ q. cond (p == q) [] (after p q)) (λ q. cond (p == q) [] (before p q)) 0 n
    (λ q q_low q_high.
    ap (λ (ms : List MsgName). cond (p == q) [] ms)
    (event_transit history at e indices within (round_is_line history r checked) p q))) in
    ap (λ (v : List ℕ). let l : ListedRound = record {
      number = r;
      checks = v;
      channels = channel_table (length new)
          (λ p q. in_transit_between new (check_line v) p q);
    } in l) same_checks
    ∙ ap (λ (v : ℕ). let l : ListedRound = record
    { number = r; checks = indices; channels = channel_table v after } in l) size
    ∙ ap (λ (v : List (List (List MsgName))). let l : ListedRound = record
    { number = r; checks = indices; channels = v } in l) same_channels

-- and so is what a change completed before it
newly_kept : (old history : List Process) (at : ℕ) (e : Event) (last : ℕ) → at < length history
    → ((r : ℕ) → is_check_of r e ≡ false) → newly_listed Unordered old history last
    ≡ newly_listed Unordered old (with_event history at e) last
newly_kept old history at e last within other =
    let new : List Process = with_event history at e in
    let none : List ListedRound = [] in
    elim (is_checked history last) as (λ b. is_checked history last ≡ b
    → newly_listed Unordered old history last ≡ newly_listed Unordered old new last) [
      | true ↦ λ checked.
          ap (λ (l : ListedRound). cond (is_checked history last && not (is_checked old last))
          (l ∷ []) none) (sym (listed_kept history at e last within (other last) checked))
          ∙ ap (λ b. cond (b && not (is_checked old last))
          (listed_round Unordered new last ∷ []) none) (sym (same_checked))
      | false ↦ λ lacks.
          ap (λ b. cond (b && not (is_checked old last))
          (listed_round Unordered history last ∷ []) none) lacks
          ∙ ap (λ b. cond (b && not (is_checked old last))
          (listed_round Unordered new last ∷ []) none) (sym (same_checked ∙ lacks))
    ] refl
  where
    same_checked : is_checked (with_event history at e) last ≡ is_checked history last
    same_checked = checked_idle history at e last within (other last)

-- a world without an order of links
module _ (history : List Process) (queues : List (List (List Item))) (colours : List ProcessTurns)
    (last : ℕ) (world : IsWorld Unordered history queues)
    (painted : IsPainted history colours) where
  -- a round on a tape has a number from 1
  round_least : (p r : ℕ) → has_check_of r (tape_at history p) ≡ true → 1 ≤ r
  round_least p r has = let less = colour_before (tape_at history p) _ r (painted.coloured.rise p)
      (split_at_check (tape_at history p) r has) in omega (arith, less)

  -- the next round is begun
  module _ (turning : Option TurningView) (rounds : List ListedRound)
      (are : AreRounds Unordered history last (opened_turning turning) rounds) where
    pub no_later : (q : ℕ) → has_check_of (last + 1) (tape_at history q) ≡ false
    no_later q = false_from_ne_true (has_check_of (last + 1) (tape_at history q))
        (λ t. let wrong = are.numbers q (last + 1) t in omega (arith, wrong))

    pub less_than_next : (q : ℕ) → colour (tape_at history q) < last + 1
    less_than_next q =
        let most = colour_most (tape_at history q) last (are.numbers q) in omega (arith, most)

    module _ (closed : (is_begun history last && not (is_completed Unordered history last)) ≡ false)
        (at : ℕ) (state : List ℕ) (within : at < length history) (new : TurningView)
        (number : new.number ≡ last + 1) where
      abbrev begun : List Process
      begun = with_event history at (Check state (Some (last + 1)))

      pub begun_open : IsTurning begun new → IsRunning Unordered begun (opened_by new)
      begun_open = begun_running Unordered history last
          (opened_turning turning) rounds are closed at state within (opened_by new) number

      pub begun_world : IsWorld Unordered begun queues
      begun_world = IsWorld-turn history queues world at state (last + 1) within

      pub begun_painted : (after : List ProcessTurns) → AreTurned begun after
          → IsPainted begun after
      begun_painted after turned = painted_turn history at state
          (last + 1) after within world.linked.fit (less_than_next at) painted.coloured turned

      pub begun_rounds : (after : List ProcessTurns) → AreTurned begun after → IsTurning begun new
          → AreRounds Unordered begun (last + 1) (left_open Unordered begun (Some (opened_by new)))
          (rounds ++ newly_closed Unordered begun (Some (opened_by new)))
      begun_rounds after turned = begun_settled Unordered history last
          (opened_turning turning) rounds are closed at state within (opened_by new) number
          (λ r completed. counted_snapshot begun r begun_world.linked.fit
          (begun_painted after turned).coloured completed)

      pub begun_newly : newly_closed Unordered begun (Some (opened_by new))
          ≡ newly_listed Unordered history begun (last + 1)
      begun_newly = begun_listed Unordered history last
          (opened_turning turning) rounds are closed at state within (opened_by new) number

  -- a process turns to the round that is open
  module _ (turning : TurningView) (rounds : List ListedRound)
      (are : AreRounds Unordered history last (Some (opened_by turning)) rounds) (at : ℕ)
      (within : at < length history) (none : has_check_of last (tape_at history at) ≡ false) where
    last_least : 1 ≤ last
    last_least = let found = any_found history last 0
        (length history) are.unfinished.begun in round_least found.0 last found.1

    pub less_than_last : colour (tape_at history at) < last
    less_than_last = colour_less (tape_at history at) last last_least (are.numbers at) none

    module _ (state : List ℕ) (new : TurningView) (number : new.number ≡ last) where
      abbrev turned : List Process
      turned = with_event history at (Check state (Some last))

      pub turned_open : IsTurning turned new → IsRunning Unordered turned (opened_by new)
      turned_open = turned_running history last (opened_by turning) rounds are at state within
          (opened_by new) number

      pub turned_world : IsWorld Unordered turned queues
      turned_world = IsWorld-turn history queues world at state last within

      pub turned_painted : (after : List ProcessTurns) → AreTurned turned after
          → IsPainted turned after
      turned_painted after is = painted_turn history at state last after within world.linked.fit
          less_than_last painted.coloured is

      pub turned_rounds_are : (after : List ProcessTurns) → AreTurned turned after
          → IsTurning turned new
          → AreRounds Unordered turned last (left_open Unordered turned (Some (opened_by new)))
          (rounds ++ newly_closed Unordered turned (Some (opened_by new)))
      turned_rounds_are after is =
          turned_settled history last (opened_by turning) rounds are at state within
          (λ r completed. counted_snapshot turned r turned_world.linked.fit
          (turned_painted after is).coloured completed) (opened_by new) number

      pub turned_newly : newly_closed Unordered turned (Some (opened_by new))
          ≡ newly_listed Unordered history turned last
      turned_newly = turned_listed history last (opened_by turning) rounds are at state within
          (opened_by new) number

  -- a message of a greater colour has a process turn to the round that is open, and is taken then
  module _ (from to : ℕ) (from_within : from < length history) (to_within : to < length history)
      (message : MsgName) (named : message.from ≡ from) (pick : ℕ)
      (at : slice_get (between queues from to) pick ≡ Some (Message message))
      (taken : fate_of Unordered history to message ≡ Taken) (round : ℕ)
      (forced : forced_round Unordered history to message ≡ Some round) where
    greater : colour (tape_at history to) < message_colour history message
    greater = let f = forced_by history to message round forced in omega (arith, f.0, f.1)

    -- there is such a round
    pub none_is_open : (rounds : List ListedRound) → AreRounds Unordered history last None rounds
        → ⊥
    none_is_open rounds are =
        let same : message_colour history message
        ≡ suc (message_colour history message) = forced_open history to message greater (suc
        (message_colour history message)) to_within (λ p s has other. are.opening p s has) in
        omega (arith, same)

    pub held_there : Holds (tape_at history message.from) message.inc message.number
    held_there = (next_receipt history queues from to from_within to_within message named pick at
        world taken).0.held

    module _ (turning : TurningView) (rounds : List ListedRound)
        (are : AreRounds Unordered history last (Some (opened_by turning)) rounds) where
      colour_is : message_colour history message ≡ last
      colour_is = forced_open history to message greater turning.number to_within
          (λ p s has other. are.opening.others p s has other) ∙ are.unfinished.number_is

      pub round_is : round ≡ last
      round_is = let f = forced_by history to message round forced in sym f.0 ∙ colour_is

      pub has_none : has_check_of last (tape_at history to) ≡ false
      has_none = subst (λ (v : ℕ). has_check_of v (tape_at history to) ≡ false) colour_is
          (forced_new history to message greater)

      module _ (state : List ℕ) (new : TurningView) (number : new.number ≡ last)
          (after : List ProcessTurns) where
        abbrev middle : List Process
        middle = with_event history to (Check state (Some last))

        pub middle_within : to < length middle
        middle_within =
            omega (arith, to_within, length-with_event history to (Check state (Some last)))

        pub sent_still : IsSentTo middle to message
        sent_still = sent_to_event history to (Check state (Some last)) to message to_within
            (next_receipt history queues from to from_within to_within message named pick at world
            taken).0

        pub held_still : Holds (tape_at middle message.from) message.inc message.number
        held_still = sent_still.held

        pub caught_world : IsWorld Unordered (with_event middle to (Recv message)) queues
        caught_world = IsWorld-caught history queues from to from_within to_within message named
            pick at world taken state last

        pub caught_painted : AreTurned middle after
            → IsPainted (with_event middle to (Recv message)) after
        caught_painted turned =
            painted_event middle to (Recv message) after middle_within (turned_world turning rounds
            are to to_within has_none state new number).linked.fit refl
            (receipt_waits history to state (Some last) message to_within (next_receipt history
            queues from to from_within to_within message named pick at world taken))
            (subst (λ (v : ℕ). message_colour
            (with_event history to (Check state (Some v))) message ≤ colour
            (tape_at (with_event history to (Check state (Some v))) to)) colour_is
            (forced_next history to message greater state to_within held_there))
            (turned_painted turning rounds are to to_within has_none state new number after turned)

        pub caught_rounds : AreTurned middle after → IsTurning middle new
            → AreRounds Unordered (with_event middle to (Recv message)) last
            (left_open Unordered middle (Some (opened_by new)))
            (rounds ++ newly_closed Unordered middle (Some (opened_by new)))
        caught_rounds turned is =
            let settled = turned_rounds_are turning rounds are to to_within has_none state new
            number after turned is in
            let left : Option OpenView = left_open Unordered middle (Some (opened_by new)) in
            AreRounds-kept middle to (Recv message) middle_within (λ r. refl)
            (λ r p. refl) Unordered last left left
            (rounds ++ newly_closed Unordered middle (Some (opened_by new))) refl
            (IsOpening-unordered middle to (Recv message) middle_within
            (λ r. refl) left settled.opening) settled

        pub caught_newly : newly_closed Unordered middle (Some (opened_by new))
            ≡ newly_listed Unordered history (with_event middle to (Recv message)) last
        caught_newly = turned_newly turning rounds are to to_within has_none state new number ∙
            newly_kept history middle to (Recv message) last middle_within (λ r. refl)
