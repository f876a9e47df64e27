use Rattle.line_posts.specs.Collected.{HasCollectedMore}
use Rattle.line_worker_tests.proofs.tests.workers.lines.KeepingWork.collect.Given as goal

abbrev pub invariant-loop-plan : goal.invariant-loop-plan
invariant-loop-plan l = HasCollectedMore l.fn.collector l.collector
