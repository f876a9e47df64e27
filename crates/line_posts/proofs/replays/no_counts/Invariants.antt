use Rattle.std.proofs.Common.{◌≡◌, replicate}
use Rattle.line_posts.specs.Replays.{counts_of}
use Rattle.line_posts.proofs.replays.no_counts.Given as goal

abbrev pub invariant-loop-p : goal.invariant-loop-p
invariant-loop-p l = counts_of l.counts.items ≡ replicate l._p (replicate l.n 0)
