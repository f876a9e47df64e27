use Rattle.std.proofs.Common.{◌≡◌, false}
use Rattle.std.specs.Prelude.{take}
use Rattle.line_tape.specs.Rounds.{has_check_of}
use Rattle.line_posts.proofs.round_checks.has_check.Given as goal

abbrev pub invariant-loop-i : goal.invariant-loop-i
invariant-loop-i l = has_check_of l.r (take l.i l.tape.events) ≡ false
