use Rattle.std.proofs.Common.{◌≡◌, ◌+◌, take, drop}
use Rattle.std.specs.List.{filter_map}
use Rattle.std.specs.VecDeque.{deque_items}
use Rattle.rtrb.specs.Ring.{known_free}
use Rattle.line_tape.specs.Event.{state_of}
use Rattle.line_posts.specs.Ends.{producer_end, with_items}
use Rattle.line_posts.proofs.reports.put_each.Given as goal

abbrev pub invariant-loop-i : goal.invariant-loop-i
invariant-loop-i l = record {
  end : producer_end l.line
      ≡ with_items (producer_end l.fn.line) (take l.i (drop l.from l.tape.events));
  free : known_free l.line + l.i ≡ known_free l.fn.line;
  states : deque_items l.states
      ≡ filter_map state_of (drop l.i (take l.k (drop l.from l.tape.events)));
}
