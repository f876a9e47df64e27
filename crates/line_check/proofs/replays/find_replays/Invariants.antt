use Rattle.std.proofs.Common.{◌≡◌, ◌≤◌, ◌+◌, ◌↔◌, IsTrue, List, length, drop, take}
use Rattle.std.specs.Prelude.{IfSome}
use Rattle.line_tape.specs.Event.{sends}
use Rattle.line_tape.specs.Line.{events_before}
use Rattle.line_check.specs.declared.answers.Replay.{Replay}
use Rattle.line_check.specs.Answers.{replays_due, still_due}
use Rattle.line_check.specs.Matches.{Leaves}
use Rattle.line_check.proofs.replays.find_replays.Given as goal

abbrev pub invariant-due : goal.invariant-due
invariant-due l = record {
  number : (l.cursor.number ≤ l.cursor.place);
  counted : (IfSome l.received (λ _. l.cursor.number
      ≡ sends (take l.cursor.place (events_before l.history.processes l.line l.cursor.p))));
  within : (l.found ≤ length l.replays);
  among : (l.found + length (still_due l.history.processes l.line l.cursor) ≤ length
      (replays_due l.history.processes l.line));
  whole : (IsTrue l.whole ↔ (l.found + length (still_due l.history.processes l.line l.cursor)
      ≡ length (replays_due l.history.processes l.line)));
  leaves : ((left : List Replay) → Leaves (still_due l.history.processes l.line l.cursor) (drop
      l.found l.replays) left → Leaves (replays_due l.history.processes l.line) l.replays left);
}

abbrev pub decreases-due : goal.decreases-due
decreases-due l = length (still_due l.history.processes l.line l.cursor)
