-- The round is open, or listed at once where there is one process alone.
use Rattle.std.proofs.Common.{◌≡◌, ℕ, ◌+◌, Bool, List, [], ◌∷◌, Option, Some, None, refl, sym, ap}
use Rattle.std.proofs.Common.{◌∙◌, subst}
use Rattle.line_tape.specs.declared.events.Event.{Event}
use Rattle.line_tape.specs.declared.events.Event.TheVariants.{Check as CheckEvent}
use Rattle.line_tape.specs.History.{Process, with_event}
use Rattle.line_rounds.specs.Kept.{ProcessTurns, AreTurned}
use Rattle.line_rounds.specs.Turning.{TurningView}
use Rattle.line_rounds.proofs.FlagLemmas.{AreFlagged-other}
use Rattle.line_tape.specs.declared.modes.Mode.TheVariants.{Unordered}
use Rattle.line_moves.specs.Listed.{ListedRound, newly_listed}
use Rattle.line_moves.specs.Openings.{newly_closed, opened_by, IsListedOrOpen}
use Rattle.line_world.specs.declared.replies.Reply.TheVariants.{Begun}
use Rattle.line_tape.specs.declared.steps.Step.TheVariants.{Begin}
use Rattle.line_world.specs.declared.worlds.World.TheInside.{Inside}
use Rattle.line_world.specs.Machine.{Machine}
use Rattle.line_world.specs.Protocols.{mode_of}
use Rattle.line_world.specs.Refusals.{refusal_of}
use Rattle.line_world.specs.Steps.{Does}
use Rattle.line_world.proofs.DeliverLemmas.{step_seen}
use Rattle.line_world.proofs.KnownFacts.{one_kind, coloured_kept, here, is_coloured, may_start}
use Rattle.line_world.proofs.KnownFacts.{IsColoured, MayStart}
use Rattle.line_world.proofs.SeenLemmas.{seen}
use Rattle.line_world.proofs.TurnedFacts.{begun_newly, begun_painted, begun_rounds, begun_world}
use Rattle.line_world.proofs.TurnedFacts.{less_than_next, no_later}
use Rattle.line_world.proofs.worlds.World.begin_colours.Goals as goal

pub turn_round-requires-clause-first : goal.turn_round-requires-clause-first
turn_round-requires-clause-first c =
    let w : Inside = c.self.inside in
    let turning : Option TurningView = c.in-Colours.turning in
    let colours : List ProcessTurns = c.in-Colours.colours in
    let is : IsColoured w turning colours c.in-Colours.received = is_coloured w c.args.self.now
    c.self.view_is c.self.invariant turning colours c.in-Colours.received c.in-Colours.is in
    no_later w.catalogue.processes w.links colours w.last_round is.world is.painted turning
    w.rounds.items is.are c.args.at

pub turn_round-requires-clause-greater : goal.turn_round-requires-clause-greater
turn_round-requires-clause-greater c =
    let w : Inside = c.self.inside in
    let turning : Option TurningView = c.in-Colours.turning in
    let colours : List ProcessTurns = c.in-Colours.colours in
    let is : IsColoured w turning colours c.in-Colours.received = is_coloured w c.args.self.now
    c.self.view_is c.self.invariant turning colours c.in-Colours.received c.in-Colours.is in
    less_than_next w.catalogue.processes w.links colours w.last_round is.world is.painted turning
    w.rounds.items is.are c.args.at

pub turn_round-requires-clause-rounds : goal.turn_round-requires-clause-rounds
turn_round-requires-clause-rounds c =
    (is_coloured c.self.inside c.args.self.now c.self.view_is c.self.invariant c.in-Colours.turning
    c.in-Colours.colours c.in-Colours.received c.in-Colours.is).are.snapshots

pub turn_round-requires-clause-kept : goal.turn_round-requires-clause-kept
turn_round-requires-clause-kept c =
    let w : Inside = c.self.inside in
    let turning : Option TurningView = c.in-Colours.turning in
    let colours : List ProcessTurns = c.in-Colours.colours in
    let is : IsColoured w turning colours c.in-Colours.received = is_coloured w c.args.self.now
    c.self.view_is c.self.invariant turning colours c.in-Colours.received c.in-Colours.is in
    record {
      round = c.in_ok-new-in-Colours.field-0;
      is = refl;
      number_is = c.in_ok-new-in-Colours.ensures.number;
      follows = c.in_ok-new-in-Colours.ensures.turning w.catalogue.processes
          (sym c.n-n.ensures.value) (no_later w.catalogue.processes w.links colours w.last_round
          is.world is.painted turning w.rounds.items is.are);
    }

pub invariant_of-self-in-Colours : goal.invariant_of-self-in-Colours
invariant_of-self-in-Colours c =
    let w : Inside = c.self.inside in
    let history : List Process = w.catalogue.processes in
    let last : ℕ = w.last_round in
    let at : ℕ = c.args.at in
    let state : List ℕ = c.args.state.now in
    let turning : Option TurningView = c.in-Colours.turning in
    let colours : List ProcessTurns = c.in-Colours.colours in
    let received : List (List Bool) = c.in-Colours.received in
    let is : IsColoured w turning colours received = is_coloured w c.args.self.now c.self.view_is
    c.self.invariant turning colours received c.in-Colours.is in
    let may : MayStart w at = may_start w c.args.self.now c.self.view_is c.self.invariant at state
    c.requires.passed in
    let closed = may.closed Unordered is.mode_is in
    let after : List Process = with_event history at (CheckEvent state (Some (last + 1))) in
    let done : c.turn_round.new.catalogue.processes
    ≡ after = c.in_ok-check-in-Colours.ensures.checked in
    let turned : AreTurned after c.turn_round.new.colours = subst (λ (h : List Process). AreTurned h
    c.turn_round.new.colours) done c.in_ok-check-in-Colours.ensures.turned in
    let settled : IsListedOrOpen after
    (last + 1) w.rounds.items c.turn_round.new.turning c.turn_round.new.rounds.items =
    subst (λ (h : List Process). IsListedOrOpen h (last + 1) w.rounds.items c.turn_round.new.turning
    c.turn_round.new.rounds.items) done c.in_ok-check-in-Colours.ensures.settled in
    coloured_kept w.rounds.items w.links c.turn_round.new.catalogue.processes after after done (last
    + 1) c.turn_round.new.colours c.turn_round.new.turning c.turn_round.new.rounds.items settled
    (begun_world history w.links colours last is.world is.painted turning w.rounds.items is.are
    closed at state may.within settled.round settled.number_is)
    (begun_rounds history w.links colours last is.world is.painted turning w.rounds.items is.are
    closed at state may.within settled.round settled.number_is c.turn_round.new.colours turned
    settled.follows)
    (begun_painted history w.links colours last is.world is.painted turning w.rounds.items is.are
    closed at state may.within settled.round settled.number_is c.turn_round.new.colours turned)
    received (AreFlagged-other history at (CheckEvent state (Some (last + 1))) received may.within
    is.world.linked.fit refl refl is.flagged)

pub returns-clause-done : goal.returns-clause-done
returns-clause-done c =
    let w : Inside = c.self.inside in
    let history : List Process = w.catalogue.processes in
    let last : ℕ = w.last_round in
    let at : ℕ = c.args.at in
    let state : List ℕ = c.args.state.now in
    let turning : Option TurningView = c.in-Colours.turning in
    let colours : List ProcessTurns = c.in-Colours.colours in
    let received : List (List Bool) = c.in-Colours.received in
    let none : refusal_of c.args.self.now (Begin at state) ≡ None = c.requires.passed in
    let is : IsColoured w turning colours received = is_coloured w c.args.self.now c.self.view_is
    c.self.invariant turning colours received c.in-Colours.is in
    let may : MayStart w at = may_start w c.args.self.now c.self.view_is c.self.invariant at state
    none in
    let closed = may.closed Unordered is.mode_is in
    let e : Event = CheckEvent state (Some (last + 1)) in
    let after : List Process = with_event history at e in
    let done : c.turn_round.new.catalogue.processes
    ≡ after = c.in_ok-check-in-Colours.ensures.checked in
    let settled : IsListedOrOpen after
    (last + 1) w.rounds.items c.turn_round.new.turning c.turn_round.new.rounds.items =
    subst (λ (h : List Process). IsListedOrOpen h (last + 1) w.rounds.items c.turn_round.new.turning
    c.turn_round.new.rounds.items) done c.in_ok-check-in-Colours.ensures.settled in
    let fresh : List ListedRound = newly_closed Unordered after (Some (opened_by settled.round)) in
    let newly : fresh ≡ newly_listed Unordered history after (last + 1) =
    begun_newly history w.links colours last is.world is.painted turning w.rounds.items is.are
    closed at state may.within settled.round settled.number_is in
    let next : Machine = seen Unordered c.turn_round.new.catalogue.processes
    c.turn_round.new.catalogue.marks (last + 1) c.turn_round.new.rounds.items w.links in (
      none,
      subst (λ (v : Machine). Does v (Begin at state)
          (Begun at c.in_ok-check-in-Colours.check (last + 1)) next)
          (here w c.args.self.now c.self.view_is c.self.invariant Unordered is.mode_is) (
            ap (λ (k : ℕ). Begun at k (last + 1)) c.in_ok-check-in-Colours.ensures.check,
            ap (λ (ls : List ListedRound). seen Unordered c.turn_round.new.catalogue.processes
                c.turn_round.new.catalogue.marks (last + 1) ls w.links) settled.listed
                ∙ step_seen Unordered history c.turn_round.new.catalogue.processes w.catalogue.marks
                c.turn_round.new.catalogue.marks last
                (last + 1) w.rounds.items fresh w.links w.links at (e ∷ []) done
                c.in_ok-check-in-Colours.ensures.marks refl newly,
          ),
    )

-- links that keep their order have markers
pub unreachable-requires : goal.unreachable-requires
unreachable-requires c = one_kind (mode_of c.self.inside.protocol) (ap mode_of c.in-Markers.is)
    (ap (λ (v : Machine). v.mode) c.self.view_is ∙ c.requires.unordered)
