use Rattle.std.proofs.Common.{◌≡◌, ◌≤◌, ◌+◌, ◌++◌, ◌∷◌, List, length}
use Rattle.line_fields.specs.Records.{Record}
use Rattle.line_claims.specs.Stages.{tapes_left}
use Rattle.line_claims.proofs.histories.take_open_tape.Given as goal

abbrev pub invariant-events : goal.invariant-events
invariant-events l = record {
  long : (length l.history.processes ≡ length l.fn.history.processes);
  count : (l.fn.number ≤ l.number);
  few : (l.number + length l.records ≤ l.fn.number + length l.fn.records);
  read : ((rest : List Record) → tapes_left (length l.fn.history.processes) l.tapes
      l.fn.history.processes l.fn.number (l.fn.row ∷ (l.fn.records ++ rest))
      ≡ tapes_left (length l.fn.history.processes) l.tapes l.history.processes l.number
      (l.row ∷ (l.records ++ rest)));
}

abbrev pub decreases-events : goal.decreases-events
decreases-events l = length l.records
