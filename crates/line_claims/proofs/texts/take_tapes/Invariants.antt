use Rattle.std.proofs.Common.{◌≡◌, ◌<◌, ◌≤◌, ◌+◌, ◌^◌, length}
use Rattle.line_claims.specs.Stages.{tapes_left}
use Rattle.line_claims.proofs.texts.take_tapes.Given as goal

abbrev pub invariant-records : goal.invariant-records
invariant-records l = record {
  long : (length l.history.processes ≡ length l.fn.history.processes);
  there : (l.tapes ≤ length l.fn.history.processes);
  room : (l.number + length l.records < 2 ^ 64);
  same : (tapes_left (length l.fn.history.processes) l.tapes l.history.processes l.number l.records
      ≡ tapes_left
      (length l.fn.history.processes) 0 l.fn.history.processes l.fn.first l.fn.records);
}

abbrev pub decreases-records : goal.decreases-records
decreases-records l = length l.records
