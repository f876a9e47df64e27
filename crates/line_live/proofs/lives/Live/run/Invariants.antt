use Rattle.std.proofs.Common.{vec_capacity}
use Rattle.line_live.proofs.LiveRuns.{IsLiveRunTo}
use Rattle.line_live.proofs.lives.Live.run.Given as goal

abbrev pub invariant-loop-step : goal.invariant-loop-step
invariant-loop-step l =
    IsLiveRunTo l.initial.self l.steps l.step-index l.done.items (vec_capacity l.done) l.self
