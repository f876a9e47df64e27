-- The round stays open, or is listed where this was its last check.
use Rattle.std.proofs.Common.{◌≡◌, ℕ, Bool, List, [], ◌∷◌, Some, None, refl, sym, ap, ◌∙◌, subst}
use Rattle.line_tape.specs.declared.events.Event.{Event}
use Rattle.line_tape.specs.declared.events.Event.TheVariants.{Check as CheckEvent}
use Rattle.line_tape.specs.History.{Process, with_event}
use Rattle.line_rounds.specs.Kept.{ProcessTurns, AreTurned}
use Rattle.line_rounds.proofs.FlagLemmas.{AreFlagged-other}
use Rattle.line_tape.specs.declared.modes.Mode.TheVariants.{Unordered}
use Rattle.line_moves.specs.Listed.{ListedRound, newly_listed}
use Rattle.line_moves.specs.Openings.{newly_closed, opened_by, IsListedOrOpen}
use Rattle.line_world.specs.declared.replies.Reply.TheVariants.{Turned as TurnedTo}
use Rattle.line_tape.specs.declared.steps.Step.TheVariants.{Turn}
use Rattle.line_world.specs.declared.worlds.World.TheInside.{Inside}
use Rattle.line_world.specs.Machine.{Machine}
use Rattle.line_world.specs.Protocols.{mode_of}
use Rattle.line_world.specs.Refusals.{refusal_of}
use Rattle.line_world.proofs.StepLemmas.{may_turn_at}
use Rattle.line_world.specs.Steps.{Does}
use Rattle.line_world.proofs.DeliverLemmas.{step_seen}
use Rattle.line_world.proofs.KnownFacts.{coloured_kept, here, may_turn_now, MayCatch}
use Rattle.line_world.proofs.SeenLemmas.{seen}
use Rattle.line_world.proofs.TurnedFacts.{less_than_last, turned_newly, turned_painted}
use Rattle.line_world.proofs.TurnedFacts.{turned_rounds_are, turned_world}
use Rattle.line_world.proofs.worlds.World.turn.Goals as goal

pub returns-in-Markers-clause-refused : goal.returns-in-Markers-clause-refused
returns-in-Markers-clause-refused c = λ other.
    let may = may_turn_at c.args.self.now c.args.at c.args.state.now
    (sym c.turn_refusal.ensures ∙ c.in_default.is) in
    let mode_is = ap mode_of (sym c.in-Markers.is) ∙ ap
    (λ (m : Machine). m.mode) c.self.view_is ∙ may.unordered in
    absurd (cc)

pub turn_round-requires-clause-first : goal.turn_round-requires-clause-first
turn_round-requires-clause-first c =
    (may_turn_now c.self.inside c.args.self.now c.self.view_is c.self.invariant c.in-Colours.turning
    c.in-Colours.colours c.in-Colours.received c.in-Colours.is c.args.at c.args.state.now
    (sym c.turn_refusal.ensures ∙ c.in_default.is)).lacks

pub turn_round-requires-clause-greater : goal.turn_round-requires-clause-greater
turn_round-requires-clause-greater c =
    let w : Inside = c.self.inside in
    let at : ℕ = c.args.at in
    let colours : List ProcessTurns = c.in-Colours.colours in
    let may : MayCatch w c.in-Colours.turning colours c.in-Colours.received at =
    may_turn_now w c.args.self.now c.self.view_is c.self.invariant c.in-Colours.turning colours
    c.in-Colours.received c.in-Colours.is at c.args.state.now
    (sym c.turn_refusal.ensures ∙ c.in_default.is) in
    less_than_last w.catalogue.processes w.links colours w.last_round may.coloured.world
    may.coloured.painted may.kept.round w.rounds.items may.are at may.within may.lacks

pub turn_round-requires-clause-rounds : goal.turn_round-requires-clause-rounds
turn_round-requires-clause-rounds c =
    (may_turn_now c.self.inside c.args.self.now c.self.view_is c.self.invariant c.in-Colours.turning
    c.in-Colours.colours c.in-Colours.received c.in-Colours.is c.args.at c.args.state.now
    (sym c.turn_refusal.ensures ∙ c.in_default.is)).coloured.are.snapshots

pub turn_round-requires-clause-kept : goal.turn_round-requires-clause-kept
turn_round-requires-clause-kept c =
    (may_turn_now c.self.inside c.args.self.now c.self.view_is c.self.invariant c.in-Colours.turning
    c.in-Colours.colours c.in-Colours.received c.in-Colours.is c.args.at c.args.state.now
    (sym c.turn_refusal.ensures ∙ c.in_default.is)).kept

pub invariant_of-self-in-Colours : goal.invariant_of-self-in-Colours
invariant_of-self-in-Colours c =
    let w : Inside = c.self.inside in
    let history : List Process = w.catalogue.processes in
    let last : ℕ = w.last_round in
    let at : ℕ = c.args.at in
    let state : List ℕ = c.args.state.now in
    let colours : List ProcessTurns = c.in-Colours.colours in
    let received : List (List Bool) = c.in-Colours.received in
    let may : MayCatch w c.in-Colours.turning colours received at =
    may_turn_now w c.args.self.now c.self.view_is c.self.invariant c.in-Colours.turning colours
    received c.in-Colours.is at state (sym c.turn_refusal.ensures ∙ c.in_default.is) in
    let after : List Process = with_event history at (CheckEvent state (Some last)) in
    let done : c.turn_round.new.catalogue.processes
    ≡ after = c.in_ok-check-in-Colours.ensures.checked in
    let turned : AreTurned after c.turn_round.new.colours = subst (λ (h : List Process). AreTurned h
    c.turn_round.new.colours) done c.in_ok-check-in-Colours.ensures.turned in
    let settled : IsListedOrOpen after last w.rounds.items c.turn_round.new.turning
    c.turn_round.new.rounds.items =
    subst (λ (h : List Process). IsListedOrOpen h last w.rounds.items c.turn_round.new.turning
    c.turn_round.new.rounds.items) done c.in_ok-check-in-Colours.ensures.settled in
    coloured_kept w.rounds.items w.links c.turn_round.new.catalogue.processes after after done last
    c.turn_round.new.colours c.turn_round.new.turning c.turn_round.new.rounds.items settled
    (turned_world history w.links colours last may.coloured.world may.coloured.painted
    may.kept.round w.rounds.items may.are at may.within may.lacks state settled.round
    settled.number_is)
    (turned_rounds_are history w.links colours last may.coloured.world may.coloured.painted
    may.kept.round w.rounds.items may.are at may.within may.lacks state settled.round
    settled.number_is c.turn_round.new.colours turned settled.follows)
    (turned_painted history w.links colours last may.coloured.world may.coloured.painted
    may.kept.round w.rounds.items may.are at may.within may.lacks state settled.round
    settled.number_is c.turn_round.new.colours turned)
    received (AreFlagged-other history at (CheckEvent state (Some last)) received may.within
    may.coloured.world.linked.fit refl refl may.coloured.flagged)

pub returns-in_ok-check-in-Colours-clause-done : goal.returns-in_ok-check-in-Colours-clause-done
returns-in_ok-check-in-Colours-clause-done c =
    let w : Inside = c.self.inside in
    let history : List Process = w.catalogue.processes in
    let last : ℕ = w.last_round in
    let at : ℕ = c.args.at in
    let state : List ℕ = c.args.state.now in
    let colours : List ProcessTurns = c.in-Colours.colours in
    let received : List (List Bool) = c.in-Colours.received in
    let none : refusal_of c.args.self.now (Turn at state)
    ≡ None = sym c.turn_refusal.ensures ∙ c.in_default.is in
    let may : MayCatch w c.in-Colours.turning colours received at =
    may_turn_now w c.args.self.now c.self.view_is c.self.invariant c.in-Colours.turning colours
    received c.in-Colours.is at state none in
    let e : Event = CheckEvent state (Some last) in
    let after : List Process = with_event history at e in
    let done : c.turn_round.new.catalogue.processes
    ≡ after = c.in_ok-check-in-Colours.ensures.checked in
    let settled : IsListedOrOpen after last w.rounds.items c.turn_round.new.turning
    c.turn_round.new.rounds.items =
    subst (λ (h : List Process). IsListedOrOpen h last w.rounds.items c.turn_round.new.turning
    c.turn_round.new.rounds.items) done c.in_ok-check-in-Colours.ensures.settled in
    let fresh : List ListedRound = newly_closed Unordered after (Some (opened_by settled.round)) in
    let newly : fresh ≡ newly_listed Unordered history after last =
    turned_newly history w.links colours last may.coloured.world may.coloured.painted may.kept.round
    w.rounds.items may.are at may.within may.lacks state settled.round settled.number_is in
    let next : Machine = seen Unordered c.turn_round.new.catalogue.processes
    c.turn_round.new.catalogue.marks last c.turn_round.new.rounds.items w.links in (
      none,
      subst (λ (v : Machine). Does v (Turn at state)
          (TurnedTo at c.in_ok-check-in-Colours.check last) next)
          (here w c.args.self.now c.self.view_is c.self.invariant Unordered may.coloured.mode_is) (
            ap (λ (k : ℕ). TurnedTo at k last) c.in_ok-check-in-Colours.ensures.check,
            ap (λ (ls : List ListedRound). seen Unordered c.turn_round.new.catalogue.processes
                c.turn_round.new.catalogue.marks last ls w.links) settled.listed
                ∙ step_seen Unordered history c.turn_round.new.catalogue.processes w.catalogue.marks
                c.turn_round.new.catalogue.marks last last w.rounds.items fresh w.links w.links at
                (e ∷ []) done c.in_ok-check-in-Colours.ensures.marks refl newly,
          ),
    )
