use Rattle.std.proofs.Common.{◌≡◌, ℕ, ◌<◌, true}
use Rattle.std.specs.Prelude.{nat_le}
use Rattle.line_cuts.specs.Cuts.{floor_check}
use Rattle.line_moves.specs.Listed.{check_in}
use Rattle.line_live.proofs.listed.is_listed_on.Given as goal

abbrev pub invariant-each : goal.invariant-each
invariant-each l = (v : ℕ) → v < l.q → nat_le (floor_check l.floor v) (check_in l.round v) ≡ true
