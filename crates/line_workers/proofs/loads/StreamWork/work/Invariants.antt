use Rattle.line_posts.specs.Generations.{IsSamePost}
use Rattle.line_workers.proofs.loads.StreamWork.work.Given as goal

abbrev pub invariant-loop-message : goal.invariant-loop-message
invariant-loop-message l = IsSamePost l.fn.post l.post
