use Rattle.line_posts.specs.Receipts.{HasOnlySeen}
use Rattle.line_workers.proofs.workers.obey.Given as goal

abbrev pub invariant-loop-turn : goal.invariant-loop-turn
invariant-loop-turn l = HasOnlySeen l.fn.post l.post
