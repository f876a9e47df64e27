use Rattle.std.proofs.Common.{ℕ, ◌<◌}
use Rattle.line_names.specs.Lines.{choice_at}
use Rattle.line_tape.specs.Front.{HasChoice}
use Rattle.line_tape.specs.History.{tape_at}
use Rattle.line_tape.proofs.lines.is_line.Given as goal

abbrev pub invariant-loop-q : goal.invariant-loop-q
invariant-loop-q l =
    (p : ℕ) → p < l.q → HasChoice (tape_at l.history.processes p) (choice_at l.line p)
