use Rattle.std.proofs.Common.{◌≡◌, ℕ, ◌<◌, true}
use Rattle.line_names.specs.Lines.{choice_at}
use Rattle.line_tape.specs.Restart.{is_kept}
use Rattle.line_moves.specs.Listed.{check_in}
use Rattle.line_moves.proofs.rounds.Round.stays.Given as goal

abbrev pub invariant-each : goal.invariant-each
invariant-each l = (v : ℕ) → v < l.q → is_kept (choice_at l.line v) (check_in l.self v) ≡ true
