use Rattle.std.proofs.Common.{◌≡◌, take}
use Rattle.line_tape.specs.Rounds.{check_line}
use Rattle.line_live.proofs.listed.line_of_checks.Given as goal

abbrev pub invariant-loop-check : goal.invariant-loop-check
invariant-loop-check l = l.line ≡ check_line (take l.check-index l.checks)
