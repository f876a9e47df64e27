use Rattle.std.proofs.Common.{◌≡◌, ℕ, ◌<◌, [], get_or}
use Rattle.line_moves.proofs.recorders.Recorder.is_silent.Given as goal

abbrev pub invariant-each : goal.invariant-each
invariant-each l = (k : ℕ) → k < l.q → get_or l.self-inside.noted.items k [] ≡ []
