use Rattle.std.proofs.Common.{ℕ, ◌<◌}
use Rattle.line_names.specs.Lines.{choice_at}
use Rattle.line_tape.specs.History.{process_at}
use Rattle.line_tape.specs.Restart.{HasFurther}
use Rattle.line_tape.proofs.histories.History.has_further.Given as goal

abbrev pub invariant-loop-q : goal.invariant-loop-q
invariant-loop-q l =
    (p : ℕ) → p < l.q → HasFurther (process_at l.self.processes p) (choice_at l.line p)
