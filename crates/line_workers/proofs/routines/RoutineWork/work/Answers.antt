use Rattle.line_posts.proofs.SameLemmas.{same_then}
use Rattle.line_workers.proofs.routines.RoutineWork.work.Goals as goal

pub loop-turn-preserved : goal.loop-turn-preserved
loop-turn-preserved c = same_then _ _ _ c.loop-turn.invariant
    (same_then _ _ _ c.send.ensures.same (same_then _ _ _ c.receive.ensures.same
    (same_then _ _ _ c.check.ensures.same c.report.ensures.same)))
