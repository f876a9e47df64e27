use Rattle.line_posts.specs.Generations.{IsSamePost}
use Rattle.line_workers.proofs.loads.receive_each.Given as goal

abbrev pub invariant-loop-p : goal.invariant-loop-p
invariant-loop-p l = IsSamePost l.fn.post l.post
