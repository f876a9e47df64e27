use Rattle.std.proofs.Common.{ℕ, ◌<◌, ◌≤◌}
use Rattle.std.specs.List.{All}
use Rattle.std.specs.Prelude.{IfSome}
use Rattle.line_tape.specs.Event.{checks}
use Rattle.line_tape.specs.History.{tape_at}
use Rattle.line_tape.specs.Views.{bar_at, damaged_at}
use Rattle.line_catalogue.proofs.agreement.are_on_checks.Given as goal

abbrev pub invariant-loop-q : goal.invariant-loop-q
invariant-loop-q l =
    (p : ℕ) → p < l.q
    → All (λ check. check ≤ checks (tape_at l.history.processes p)) (damaged_at l.marks p)
    × IfSome (bar_at l.marks p) (λ check. check ≤ checks (tape_at l.history.processes p))
