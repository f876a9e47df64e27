use Rattle.std.proofs.Common.{◌≤◌, ◌-◌, length}
use Rattle.line_vectors.specs.Lanes.{HasNoneOverBefore}
use Rattle.line_vectors.proofs.kernels.first_over_from.Given as goal

abbrev pub invariant-loop-at : goal.invariant-loop-at
invariant-loop-at l = (l.at ≤ length l.a) × HasNoneOverBefore l.a l.b l.at

abbrev pub decreases-loop-at : goal.decreases-loop-at
decreases-loop-at l = length l.a - l.at

abbrev pub invariant-loop-i : goal.invariant-loop-i
invariant-loop-i l = HasNoneOverBefore l.a l.b l.i
