use Rattle.std.proofs.Common.{ℕ, ◌<◌, ◌≤◌}
use Rattle.line_moves.specs.Listed.{check_in}
use Rattle.line_moves.proofs.rounds.Round.is_below.Given as goal

abbrev pub invariant-each : goal.invariant-each
invariant-each l = (k : ℕ) → k < l.p → check_in l.self k ≤ check_in l.other k
