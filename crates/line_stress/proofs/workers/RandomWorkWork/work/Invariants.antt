use Rattle.line_posts.specs.Generations.{IsSamePost}
use Rattle.line_stress.proofs.workers.RandomWorkWork.work.Given as goal

abbrev pub invariant-loop-turn : goal.invariant-loop-turn
invariant-loop-turn l = IsSamePost l.fn.post l.post
