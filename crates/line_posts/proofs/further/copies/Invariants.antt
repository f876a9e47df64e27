use Rattle.std.proofs.Common.{◌≡◌, take, drop}
use Rattle.std.specs.VecDeque.{deque_items}
use Rattle.line_posts.proofs.further.copies.Given as goal

abbrev pub invariant-loop-i : goal.invariant-loop-i
invariant-loop-i l = deque_items l.events ≡ take l.i (drop l.from l.tape.events)
