use Rattle.std.proofs.Common.{ℕ, ◌<◌}
use Rattle.line_names.specs.Lines.{choice_at}
use Rattle.line_tape.specs.History.{tape_at}
use Rattle.line_tape.specs.Rounds.{check_line}
use Rattle.line_moves.proofs.StillLemmas.{IsStill}
use Rattle.line_moves.proofs.counts.is_still_at.Given as goal

abbrev pub invariant-each : goal.invariant-each
invariant-each l = (k : ℕ) → k < l.q → IsStill (tape_at l.history.processes k)
    (choice_at (check_line l.round.checks) k) (choice_at l.line k)
