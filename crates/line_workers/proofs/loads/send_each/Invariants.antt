use Rattle.line_posts.specs.Generations.{IsSamePost}
use Rattle.line_workers.proofs.loads.send_each.Given as goal

abbrev pub invariant-loop-q : goal.invariant-loop-q
invariant-loop-q l = IsSamePost l.fn.post l.post
