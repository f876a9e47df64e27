use Rattle.std.proofs.Common.{◌≤◌, ◌-◌, length}
use Rattle.line_vectors.specs.Blocks.{HasGreaterOn}
use Rattle.line_vectors.proofs.kernels.max_into.Given as goal

abbrev pub invariant-loop-a : goal.invariant-loop-a
invariant-loop-a l = (l.at ≤ length l.b) × HasGreaterOn l.fn.a l.a l.b 0 l.at

abbrev pub decreases-loop-a : goal.decreases-loop-a
decreases-loop-a l = length l.b - l.at

abbrev pub invariant-loop-i : goal.invariant-loop-i
invariant-loop-i l = HasGreaterOn l.fn.a l.a l.b 0 l.i
