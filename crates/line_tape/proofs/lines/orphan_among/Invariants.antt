use Rattle.std.proofs.Common.{take}
use Rattle.line_tape.specs.Line.{IsFoundAmong}
use Rattle.line_tape.proofs.lines.orphan_among.Given as goal

abbrev pub invariant-loop-i : goal.invariant-loop-i
invariant-loop-i l = IsFoundAmong l.history.processes l.line (take l.i l.events) l.best
