use Rattle.std.proofs.Common.{◌≡◌, ◌≤◌, ◌-◌, length, take}
use Rattle.std.specs.Prelude.{IfSome}
use Rattle.line_tape.specs.Event.{sends}
use Rattle.line_tape.specs.Line.{events_before}
use Rattle.line_check.specs.Answers.{still_due}
use Rattle.line_check.proofs.cursors.next_due.Given as goal

abbrev pub invariant-processes : goal.invariant-processes
invariant-processes l = record {
  number : (l.walk.number ≤ l.walk.place);
  counted : (IfSome l.received (λ _. l.walk.number
      ≡ sends (take l.walk.place (events_before l.history.processes l.line l.walk.p))));
  left : (still_due l.history.processes l.line l.fn.cursor
      ≡ still_due l.history.processes l.line l.walk);
}

abbrev pub decreases-processes : goal.decreases-processes
decreases-processes l = l.n - l.walk.p

abbrev pub invariant-events : goal.invariant-events
invariant-events l = record {
  number : (l.walk.number ≤ l.walk.place);
  process : (l.walk.p ≡ l.p);
  counted : (IfSome l.received (λ _. l.walk.number ≡ sends (take l.walk.place l.events)));
  left : (still_due l.history.processes l.line l.fn.cursor
      ≡ still_due l.history.processes l.line l.walk);
}

abbrev pub decreases-events : goal.decreases-events
decreases-events l = length l.events - l.walk.place
