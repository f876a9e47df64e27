use Rattle.std.proofs.Common.{◌+◌, ◌-◌, length}
use Rattle.line_fields.proofs.EndLemmas.{IsParted}
use Rattle.line_fields.proofs.SplitLemmas.{IsUnder}
use Rattle.line_fields.proofs.splits.split.Given as goal

abbrev pub invariant-loop-marks : goal.invariant-loop-marks
invariant-loop-marks l = IsUnder l.text l.ends.items l.at l.next l.marks

abbrev pub decreases-loop-marks : goal.decreases-loop-marks
decreases-loop-marks l = (l.at + 16) - l.next

abbrev pub invariant-loop-at : goal.invariant-loop-at
invariant-loop-at l = IsParted l.text l.ends.items l.at

abbrev pub decreases-loop-at : goal.decreases-loop-at
decreases-loop-at l = length l.text - l.at

abbrev pub invariant-loop-at-2 : goal.invariant-loop-at-2
invariant-loop-at-2 l = IsParted l.text l.ends.items l.at

abbrev pub decreases-loop-at-2 : goal.decreases-loop-at-2
decreases-loop-at-2 l = length l.text - l.at
