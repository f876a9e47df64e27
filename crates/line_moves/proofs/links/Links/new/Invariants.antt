use Rattle.std.proofs.Common.{◌≡◌, [], map, replicate}
use Rattle.line_moves.specs.Rooms.{items_held}
use Rattle.line_moves.proofs.links.Links.new.Given as goal

abbrev pub invariant-loop-p : goal.invariant-loop-p
invariant-loop-p l = map items_held l.rows.items ≡ replicate l._p (replicate l.n [])
