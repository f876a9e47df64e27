use Rattle.std.proofs.Common.{◌≡◌, [], replicate}
use Rattle.line_moves.specs.Rooms.{items_held}
use Rattle.line_moves.proofs.links.LinkRow.new.Given as goal

abbrev pub invariant-loop-q : goal.invariant-loop-q
invariant-loop-q l = items_held l.queues.items ≡ replicate l._q []
