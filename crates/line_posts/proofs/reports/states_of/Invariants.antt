use Rattle.std.proofs.Common.{◌≡◌, take, drop}
use Rattle.std.specs.List.{filter_map}
use Rattle.std.specs.VecDeque.{deque_items}
use Rattle.line_tape.specs.Event.{state_of}
use Rattle.line_posts.proofs.reports.states_of.Given as goal

abbrev pub invariant-loop-i : goal.invariant-loop-i
invariant-loop-i l =
    deque_items l.states ≡ filter_map state_of (take l.i (drop l.from l.tape.events))
