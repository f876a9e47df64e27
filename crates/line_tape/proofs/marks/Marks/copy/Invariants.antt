use Rattle.std.proofs.Common.{◌≡◌, take}
use Rattle.line_tape.proofs.marks.Marks.copy.Given as goal

abbrev pub invariant-loop-process : goal.invariant-loop-process
invariant-loop-process l = l.damaged.items ≡ take l.process-index l.self.damaged
