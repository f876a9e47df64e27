use Rattle.line_posts.specs.Collected.{HasCollectedMore}
use Rattle.line_stress.proofs.workers.RandomWorkWork.collect.Given as goal

abbrev pub invariant-loop-look : goal.invariant-loop-look
invariant-loop-look l = HasCollectedMore l.fn.collector l.collector
