use Rattle.std.proofs.Common.{◌≡◌, ◌<◌, ℕ, get_or}
use Rattle.line_live.proofs.resumed.are_zero.Given as goal

abbrev pub invariant-each : goal.invariant-each
invariant-each l = (p : ℕ) → p < l.number-index → get_or l.numbers p 0 ≡ 0
