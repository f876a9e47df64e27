-- Marks of damage, and bars, on checks that there are.
use Rattle.std.specs.Prelude.{ℕ, ◌≤◌, List, All, IfSome}
use Rattle.line_tape.specs.Event.{checks}
use Rattle.line_tape.specs.History.{Process, tape_at}
use Rattle.line_tape.specs.Views.{MarksView, bar_at, damaged_at}

-- each mark and each bar is on a check that its tape has
pub record AreOnChecks (history : List Process) (marks : MarksView) : Type 0 where
  pub each : (p : ℕ) → All (λ check. check ≤ checks (tape_at history p)) (damaged_at marks p)
  pub bars : (p : ℕ) → IfSome (bar_at marks p) (λ check. check ≤ checks (tape_at history p))
