use Rattle.std.proofs.Common.{◌≡◌, [], replicate}
use Rattle.line_tape.proofs.marks.Marks.new.Given as goal

abbrev pub invariant-loop-p : goal.invariant-loop-p
invariant-loop-p l = l.damaged.items ≡ replicate l._p []
