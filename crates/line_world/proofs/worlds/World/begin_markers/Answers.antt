-- The round is open, or listed at once where there is one process alone.
use Rattle.std.proofs.Common.{◌≡◌, ℕ, ◌+◌, ◌++◌, List, [], ◌∷◌, Option, Some, None, refl, sym, ap}
use Rattle.std.proofs.Common.{◌∙◌, subst, arith}
use Rattle.std.proofs.lemmas.Bool.{false_from_ne_true}
use Rattle.line_tape.specs.declared.events.Event.{Event}
use Rattle.line_tape.specs.declared.events.Event.TheVariants.{Check as CheckEvent}
use Rattle.line_tape.specs.History.{Process, tape_at, with_event}
use Rattle.line_tape.specs.Rounds.{has_check_of}
use Rattle.line_tape.specs.declared.modes.Mode.TheVariants.{Fifo}
use Rattle.line_moves.specs.Listed.{ListedRound, newly_listed}
use Rattle.line_moves.specs.Openings.{OpenView, left_open, newly_closed, IsRecording, IsRunning}
use Rattle.line_moves.specs.Worlds.{AreRounds, IsWorld}
use Rattle.line_moves.proofs.OpeningLemmas.{listed_snapshot}
use Rattle.line_world.specs.declared.replies.Reply.TheVariants.{Begun}
use Rattle.line_tape.specs.declared.steps.Step.TheVariants.{Begin}
use Rattle.line_world.specs.declared.worlds.World.TheInside.{Inside}
use Rattle.line_world.specs.Machine.{Machine}
use Rattle.line_world.specs.Protocols.{mode_of}
use Rattle.line_world.specs.Refusals.{refusal_of}
use Rattle.line_world.specs.Steps.{Does}
use Rattle.line_world.proofs.DeliverLemmas.{step_seen}
use Rattle.line_world.proofs.KnownFacts.{one_kind, here, is_in_order, may_start, ordered_kept}
use Rattle.line_world.proofs.KnownFacts.{IsInOrder, MayStart}
use Rattle.line_world.proofs.MarkerFacts.{begun_listed, begun_running, begun_settled}
use Rattle.line_world.proofs.SeenLemmas.{seen}
use Rattle.line_world.proofs.worlds.World.begin_markers.Goals as goal

pub begin_round-requires-clause-fresh : goal.begin_round-requires-clause-fresh
begin_round-requires-clause-fresh c = λ q.
    let w : Inside = c.self.inside in
    let is : IsInOrder w c.in-Markers.running = is_in_order w c.args.self.now c.self.view_is
    c.self.invariant c.in-Markers.running c.in-Markers.is in
    false_from_ne_true (has_check_of (w.last_round + 1) (tape_at w.catalogue.processes q))
    (λ t. let wrong = is.are.numbers q (w.last_round + 1) t in omega (arith, wrong))

pub list_completed-requires-clause-opening : goal.list_completed-requires-clause-opening
list_completed-requires-clause-opening c =
    let w : Inside = c.self.inside in
    let at : ℕ = c.args.at in
    let state : List ℕ = c.args.state.now in
    let running : Option OpenView = c.in-Markers.running in
    let is : IsInOrder w running = is_in_order w c.args.self.now c.self.view_is c.self.invariant
    running c.in-Markers.is in
    let may : MayStart w at = may_start w c.args.self.now c.self.view_is c.self.invariant at state
    c.requires.passed in
    let round : OpenView = c.in_ok-begun-in-Markers.begun in
    let recording : IsRecording
    (with_event w.catalogue.processes at (CheckEvent state (Some (w.last_round + 1)))) round =
    subst (λ (h : List Process). IsRecording h round) c.in_ok-begun-in-Markers.ensures.checked
    c.in_ok-begun-in-Markers.ensures.recording in
    subst (λ (h : List Process). IsRunning Fifo h round)
    (sym (c.history-history.ensures.processes ∙ c.in_ok-begun-in-Markers.ensures.checked))
    (begun_running Fifo w.catalogue.processes w.last_round running w.rounds.items is.are
    (may.closed Fifo is.mode_is) at state may.within round
    c.in_ok-begun-in-Markers.ensures.number recording)

pub invariant_of-self-in-Markers : goal.invariant_of-self-in-Markers
invariant_of-self-in-Markers c =
    let w : Inside = c.self.inside in
    let history : List Process = w.catalogue.processes in
    let last : ℕ = w.last_round in
    let at : ℕ = c.args.at in
    let state : List ℕ = c.args.state.now in
    let running : Option OpenView = c.in-Markers.running in
    let is : IsInOrder w running = is_in_order w c.args.self.now c.self.view_is c.self.invariant
    running c.in-Markers.is in
    let may : MayStart w at = may_start w c.args.self.now c.self.view_is c.self.invariant at state
    c.requires.passed in
    let round : OpenView = c.in_ok-begun-in-Markers.begun in
    let after : List Process = with_event history at (CheckEvent state (Some (last + 1))) in
    let done : c.begin_round.new.catalogue.processes
    ≡ after = c.in_ok-begun-in-Markers.ensures.checked in
    let recording : IsRecording after round = subst (λ (h : List Process). IsRecording h round) done
    c.in_ok-begun-in-Markers.ensures.recording in
    let told : c.history-history.result.now.processes
    ≡ after = c.history-history.ensures.processes ∙ done in
    let listed : c.list_completed.new.rounds.items
    ≡ w.rounds.items ++ newly_closed Fifo after (Some round) =
    c.list_completed.ensures.listed ∙ ap (λ (ls : List ListedRound). ls ++ newly_closed Fifo
    c.history-history.result.now.processes (Some round)) c.reserve.ensures.items
    ∙ ap (λ (h : List Process). w.rounds.items ++ newly_closed Fifo h (Some round)) told in
    let world_after : IsWorld Fifo after c.begin_round.new.links = subst (λ (h : List Process).
    IsWorld Fifo h c.begin_round.new.links) done c.in_ok-begun-in-Markers.ensures.world in
    let left : c.list_completed.new.running
    ≡ left_open Fifo after (Some round) = c.list_completed.ensures.left ∙ ap
    (λ (h : List Process). left_open Fifo h (Some round)) told in
    ordered_kept c.begin_round.new.catalogue.processes after done c.begin_round.new.links
    (last + 1) c.list_completed.new.running c.list_completed.new.rounds.items
    c.in_ok-begun-in-Markers.ensures.world
    (subst (λ (o : Option OpenView). AreRounds Fifo after
    (last + 1) o c.list_completed.new.rounds.items) (sym left)
    (subst (λ (ls : List ListedRound). AreRounds Fifo after (last + 1)
    (left_open Fifo after (Some round)) ls) (sym listed)
    (begun_settled Fifo history last running w.rounds.items is.are
    (may.closed Fifo is.mode_is) at state may.within round
    c.in_ok-begun-in-Markers.ensures.number
    (λ r completed. listed_snapshot after r world_after.linked.fit completed) recording)))

pub returns-clause-done : goal.returns-clause-done
returns-clause-done c =
    let w : Inside = c.self.inside in
    let history : List Process = w.catalogue.processes in
    let last : ℕ = w.last_round in
    let at : ℕ = c.args.at in
    let state : List ℕ = c.args.state.now in
    let running : Option OpenView = c.in-Markers.running in
    let none : refusal_of c.args.self.now (Begin at state) ≡ None = c.requires.passed in
    let is : IsInOrder w running = is_in_order w c.args.self.now c.self.view_is c.self.invariant
    running c.in-Markers.is in
    let may : MayStart w at = may_start w c.args.self.now c.self.view_is c.self.invariant at state
    none in
    let round : OpenView = c.in_ok-begun-in-Markers.begun in
    let e : Event = CheckEvent state (Some (last + 1)) in
    let after : List Process = with_event history at e in
    let done : c.begin_round.new.catalogue.processes
    ≡ after = c.in_ok-begun-in-Markers.ensures.checked in
    let told : c.history-history.result.now.processes
    ≡ after = c.history-history.ensures.processes ∙ done in
    let fresh : List ListedRound = newly_closed Fifo after (Some round) in
    let listed : c.list_completed.new.rounds.items ≡ w.rounds.items ++ fresh =
    c.list_completed.ensures.listed ∙ ap (λ (ls : List ListedRound). ls ++ newly_closed Fifo
    c.history-history.result.now.processes (Some round)) c.reserve.ensures.items
    ∙ ap (λ (h : List Process). w.rounds.items ++ newly_closed Fifo h (Some round)) told in
    let new : Machine = seen Fifo c.begin_round.new.catalogue.processes
    c.begin_round.new.catalogue.marks
    (last + 1) c.list_completed.new.rounds.items c.begin_round.new.links in
    let newly : fresh ≡ newly_listed Fifo history after (last + 1) =
    begun_listed Fifo history last running w.rounds.items is.are (may.closed Fifo is.mode_is) at
    state may.within round c.in_ok-begun-in-Markers.ensures.number in (
      none,
      subst (λ (v : Machine). Does v (Begin at state) (Begun at c.in_ok-begun-in-Markers.check (last
          + 1)) new) (here w c.args.self.now c.self.view_is c.self.invariant Fifo is.mode_is) (
            ap (λ (k : ℕ). Begun at k (last + 1)) c.in_ok-begun-in-Markers.ensures.check,
            ap (λ (ls : List ListedRound). seen Fifo c.begin_round.new.catalogue.processes
                c.begin_round.new.catalogue.marks (last + 1) ls c.begin_round.new.links) listed
                ∙ step_seen Fifo history c.begin_round.new.catalogue.processes w.catalogue.marks
                c.begin_round.new.catalogue.marks last
                (last + 1) w.rounds.items fresh w.links c.begin_round.new.links at (e ∷ []) done
                c.in_ok-begun-in-Markers.ensures.marks refl newly,
          ),
    )

-- links that keep no order have colours
pub unreachable-requires : goal.unreachable-requires
unreachable-requires c = one_kind (mode_of c.self.inside.protocol)
    (ap (λ (v : Machine). v.mode) c.self.view_is ∙ c.requires.fifo) (ap mode_of c.in-Colours.is)
