use Rattle.std.proofs.Common.{◌≢◌, ℕ, ◌<◌}
use Rattle.std.specs.Prelude.{IsTrue}
use Rattle.line_names.specs.Sets.{is_member}
use Rattle.line_moves.proofs.recorders.have_come.Given as goal

abbrev pub invariant-each : goal.invariant-each
invariant-each l = (k : ℕ) → k < l.q → k ≢ l.me → IsTrue (is_member l.closed k)
