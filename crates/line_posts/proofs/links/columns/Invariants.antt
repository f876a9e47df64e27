use Rattle.std.proofs.Common.{◌≡◌, [], replicate}
use Rattle.line_posts.specs.Ends.{in_rows}
use Rattle.line_posts.proofs.links.columns.Given as goal

abbrev pub invariant-loop-q : goal.invariant-loop-q
invariant-loop-q g l = in_rows l.ins.items ≡ replicate l._q []
