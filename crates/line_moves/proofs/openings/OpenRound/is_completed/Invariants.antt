use Rattle.std.proofs.Common.{◌≡◌, ℕ, ◌<◌, true}
use Rattle.line_tape.specs.Rounds.{is_closed_at}
use Rattle.line_moves.proofs.openings.OpenRound.is_completed.Given as goal

abbrev pub invariant-each : goal.invariant-each
invariant-each l = (v : ℕ) → v < l.q → is_closed_at l.history.processes l.self.number v ≡ true
