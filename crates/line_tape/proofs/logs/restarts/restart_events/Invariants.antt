use Rattle.std.proofs.Common.{◌≡◌, ◌≤◌, take, drop}
use Rattle.std.specs.Prelude.{vec_len, vec_capacity}
use Rattle.std.specs.List.{filter_map}
use Rattle.line_tape.specs.Laid.{restarted_kept}
use Rattle.line_tape.proofs.logs.restarts.restart_events.Given as goal

abbrev pub invariant-loop-i : goal.invariant-loop-i
invariant-loop-i l = record {
  done : take l.end l.events.items ≡ filter_map restarted_kept (take l.i l.fn.events.items);
  rest : drop l.i l.events.items ≡ drop l.i l.fn.events.items;
  behind : l.end ≤ l.i;
  many : vec_len l.events ≡ vec_len l.fn.events;
  capacity : vec_capacity l.events ≡ vec_capacity l.fn.events;
}
