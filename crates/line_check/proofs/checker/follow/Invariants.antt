use Rattle.std.proofs.Common.{take}
use Rattle.line_tape.specs.Chain.{IsLed}
use Rattle.line_check.proofs.checker.follow.Given as goal

abbrev pub invariant-loop-k : goal.invariant-loop-k
invariant-loop-k l = IsLed l.history.processes l.marks l.failed (take l.k l.entries) l.ceilings
