use Rattle.std.proofs.Common.{ℕ, ◌<◌}
use Rattle.line_tape.specs.Line.{AreSentBefore, events_before}
use Rattle.line_tape.proofs.lines.is_consistent.Given as goal

abbrev pub invariant-loop-q : goal.invariant-loop-q
invariant-loop-q l =
    (p : ℕ) → p < l.q
    → AreSentBefore l.history.processes l.line (events_before l.history.processes l.line p)
