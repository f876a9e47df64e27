-- A process may turn to the round that is kept as open if it has no check of it.
use Rattle.std.proofs.Common.{Option, Some, None, sym, ap, ◌∙◌, subst}
use Rattle.line_rounds.specs.Turning.{TurningView}
use Rattle.line_tape.specs.declared.modes.Mode.TheVariants.{Unordered}
use Rattle.line_moves.specs.Openings.{opened_turning}
use Rattle.line_moves.specs.Worlds.{AreRounds}
use Rattle.line_moves.proofs.TurnFacts.{may_turn_none, may_turn_some}
use Rattle.line_world.specs.declared.worlds.World.TheInside.{Inside}
use Rattle.line_world.specs.Machine.{Machine}
use Rattle.line_world.specs.Protocols.{mode_of}
use Rattle.line_world.specs.Refusals.{may_turn}
use Rattle.line_world.proofs.KnownFacts.{here, is_coloured, IsColoured}
use Rattle.line_world.proofs.worlds.World.may_turn.Goals as goal

pub returns-in-Markers : goal.returns-in-Markers
returns-in-Markers c =
    let mode_is = ap mode_of (sym c.in-Markers.is) ∙ ap
    (λ (m : Machine). m.mode) c.self.view_is ∙ c.requires.mode in
    absurd (cc)

pub returns-in-Some : goal.returns-in-Some
returns-in-Some c =
    let w : Inside = c.self.inside in
    let turning : TurningView = c.in-Some.round in
    let is : IsColoured w c.in-Colours.turning c.in-Colours.colours c.in-Colours.received =
    is_coloured w c.args.self.now c.self.view_is c.self.invariant c.in-Colours.turning
    c.in-Colours.colours c.in-Colours.received c.in-Colours.is in
    let are : AreRounds Unordered w.catalogue.processes w.last_round
    (opened_turning (Some turning)) w.rounds.items =
    subst (λ (o : Option TurningView). AreRounds Unordered w.catalogue.processes w.last_round
    (opened_turning o) w.rounds.items) c.in-Some.is is.are in
    may_turn_some w.catalogue.processes w.last_round turning w.rounds.items are c.args.at
    c.has_check.result (c.has_check.ensures w.catalogue.processes are.opening.recording)
    ∙ ap (λ (v : Machine). may_turn v c.args.at)
    (here w c.args.self.now c.self.view_is c.self.invariant Unordered is.mode_is)

pub returns-in-None : goal.returns-in-None
returns-in-None c =
    let w : Inside = c.self.inside in
    let is : IsColoured w c.in-Colours.turning c.in-Colours.colours c.in-Colours.received =
    is_coloured w c.args.self.now c.self.view_is c.self.invariant c.in-Colours.turning
    c.in-Colours.colours c.in-Colours.received c.in-Colours.is in
    let are : AreRounds Unordered w.catalogue.processes w.last_round
    (opened_turning None) w.rounds.items =
    subst (λ (o : Option TurningView). AreRounds Unordered w.catalogue.processes w.last_round
    (opened_turning o) w.rounds.items) c.in-None.is is.are in
    may_turn_none w.catalogue.processes w.last_round w.rounds.items are c.args.at
    ∙ ap (λ (v : Machine). may_turn v c.args.at)
    (here w c.args.self.now c.self.view_is c.self.invariant Unordered is.mode_is)
