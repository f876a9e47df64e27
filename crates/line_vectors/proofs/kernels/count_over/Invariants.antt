use Rattle.std.proofs.Common.{◌≡◌, ◌≤◌, ◌-◌, length, take}
use Rattle.line_vectors.specs.Lanes.{over_count}
use Rattle.line_vectors.proofs.kernels.count_over.Given as goal

abbrev pub invariant-loop-at : goal.invariant-loop-at
invariant-loop-at l =
    (l.at ≤ length l.a) × (l.total ≤ l.at) × (l.total ≡ over_count (take l.at l.a) (take l.at l.b))

abbrev pub decreases-loop-at : goal.decreases-loop-at
decreases-loop-at l = length l.a - l.at

abbrev pub invariant-loop-i : goal.invariant-loop-i
invariant-loop-i l = (l.total ≤ l.i) × (l.total ≡ over_count (take l.i l.a) (take l.i l.b))
