use Rattle.line_posts.specs.Generations.{IsSamePost}
use Rattle.line_stress.proofs.workers.RandomWork.sweep.Given as goal

abbrev pub invariant-loop-places : goal.invariant-loop-places
invariant-loop-places l = IsSamePost l.fn.post l.post
