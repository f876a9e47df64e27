use Rattle.std.proofs.Common.{◌≡◌, map, replicate, vec_capacity, vec_len}
use Rattle.line_tape.specs.History.{fresh}
use Rattle.line_tape.specs.Plain.{process_kept}
use Rattle.line_tape.proofs.histories.History.new.Given as goal

abbrev pub invariant-loop-p : goal.invariant-loop-p
invariant-loop-p l = record {
  made : map process_kept l.processes.items ≡ replicate l._p fresh;
  count : vec_len l.processes ≡ l._p;
  room : vec_capacity l.processes ≡ l.n;
}
