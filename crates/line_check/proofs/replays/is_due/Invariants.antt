use Rattle.std.proofs.Common.{◌≤◌, ◌↔◌, length}
use Rattle.std.specs.List.{Contains}
use Rattle.line_check.specs.Answers.{replays_due, still_due}
use Rattle.line_check.proofs.replays.is_due.Given as goal

abbrev pub invariant-due : goal.invariant-due
invariant-due l = record {
  number : (l.cursor.number ≤ l.cursor.place);
  same : (Contains (replays_due l.history.processes l.line) l.replay
      ↔ Contains (still_due l.history.processes l.line l.cursor) l.replay);
}

abbrev pub decreases-due : goal.decreases-due
decreases-due l = length (still_due l.history.processes l.line l.cursor)
