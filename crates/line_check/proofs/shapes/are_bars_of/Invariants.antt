use Rattle.std.proofs.Common.{◌≡◌, ℕ, ◌<◌, Some}
use Rattle.line_tape.specs.Views.{bar_at}
use Rattle.line_check.specs.Shape.{IsCheckOf}
use Rattle.line_check.proofs.shapes.are_bars_of.Given as goal

abbrev pub invariant-loop-p : goal.invariant-loop-p
invariant-loop-p l = (q : ℕ) → q < l.p → (check : ℕ) → bar_at l.marks q ≡ Some check
    → IsCheckOf l.history.processes q check
