use Rattle.std.proofs.Common.{ℕ, ◌<◌, All, slice_index_or, []}
use Rattle.line_check.specs.Shape.{IsCheckOf}
use Rattle.line_check.proofs.shapes.are_marks_of.Given as goal

abbrev pub invariant-loop-p : goal.invariant-loop-p
invariant-loop-p l =
    (q : ℕ) → q < l.p → All (IsCheckOf l.history.processes q) (slice_index_or l.marks.damaged q [])
