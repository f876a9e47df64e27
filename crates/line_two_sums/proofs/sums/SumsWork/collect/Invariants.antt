use Rattle.line_posts.specs.Collected.{HasCollectedMore}
use Rattle.line_two_sums.proofs.sums.SumsWork.collect.Given as goal

abbrev pub invariant-loop-turn : goal.invariant-loop-turn
invariant-loop-turn l = HasCollectedMore l.fn.collector l.collector
