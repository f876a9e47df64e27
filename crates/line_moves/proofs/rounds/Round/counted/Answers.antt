-- The channels that were counted are those that it shows.
use Rattle.line_moves.proofs.LeaningLemmas.{lent_shape, lent_shown}
use Rattle.line_moves.proofs.TurnFacts.{lent_found}
use Rattle.line_moves.proofs.rounds.Round.counted.Goals as goal

pub returns-clause-shape : goal.returns-clause-shape
returns-clause-shape c =
    lent_shape c.self.inside.number c.self.inside.checks.items c.self.inside.markers
    c.self.inside.counted c.args.self.now c.self.view_is c.self.invariant c.as_ref.result
    c.as_ref.ensures.value

pub returns-clause-shown : goal.returns-clause-shown
returns-clause-shown c =
    lent_shown c.self.inside.number c.self.inside.checks.items c.self.inside.markers
    c.self.inside.counted c.args.self.now c.self.view_is c.as_ref.result c.as_ref.ensures.value

pub returns-clause-transit : goal.returns-clause-transit
returns-clause-transit c = λ history snapshot.
    lent_found history c.self.inside.number c.self.inside.checks.items c.self.inside.markers
    c.self.inside.counted c.args.self.now c.self.view_is c.self.invariant snapshot
    c.as_ref.result c.as_ref.ensures.value
