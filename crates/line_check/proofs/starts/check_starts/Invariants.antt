use Rattle.std.proofs.Common.{◌≡◌, ◌<◌, ℕ, Some}
use Rattle.std.specs.List.{slice_get}
use Rattle.line_check.specs.Answers.{start_due}
use Rattle.line_check.proofs.starts.check_starts.Given as goal

abbrev pub invariant-loop-q : goal.invariant-loop-q
invariant-loop-q l =
    (r : ℕ) → r < l.q → slice_get l.starts r ≡ Some (start_due l.history.processes l.line r)
