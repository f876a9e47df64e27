use Rattle.line_posts.proofs.ReportLemmas.{more_then}
use Rattle.line_worker_tests.proofs.tests.workers.lines.KeepingWork.collect.Goals as goal

pub loop-plan-preserved : goal.loop-plan-preserved
loop-plan-preserved c = more_then _ _ _ c.loop-plan.invariant c.look.ensures
