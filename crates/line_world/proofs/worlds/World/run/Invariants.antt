use Rattle.std.proofs.Common.{vec_capacity}
use Rattle.line_world.proofs.RunLemmas.{IsRunTo}
use Rattle.line_world.proofs.worlds.World.run.Given as goal

abbrev pub invariant-loop-step : goal.invariant-loop-step
invariant-loop-step l =
    IsRunTo l.initial.self l.steps l.step-index l.done.items (vec_capacity l.done) l.self
