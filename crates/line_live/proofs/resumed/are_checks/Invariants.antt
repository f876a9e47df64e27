use Rattle.std.proofs.Common.{◌<◌, ◌≤◌, ℕ, get_or}
use Rattle.line_live.proofs.resumed.are_checks.Given as goal

abbrev pub invariant-each : goal.invariant-each
invariant-each l = (k d : ℕ) → k < l.check-index → 1 ≤ get_or l.checks k d
