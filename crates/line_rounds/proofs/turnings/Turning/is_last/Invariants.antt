use Rattle.std.proofs.Common.{◌≢◌, ℕ, ◌<◌, get_or}
use Rattle.line_rounds.proofs.turnings.Turning.is_last.Given as goal

abbrev pub invariant-loop-q : goal.invariant-loop-q
invariant-loop-q l = (v : ℕ) → v < l.q → v ≢ l.p → get_or l.self.checks v 0 ≢ 0
