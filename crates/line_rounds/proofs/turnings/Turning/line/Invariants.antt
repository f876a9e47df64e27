use Rattle.std.proofs.Common.{◌≡◌, length, take}
use Rattle.line_tape.specs.Rounds.{check_line}
use Rattle.line_rounds.proofs.turnings.Turning.line.Given as goal

abbrev pub invariant-loop-check : goal.invariant-loop-check
invariant-loop-check l =
    (l.line ≡ check_line (take l.check-index l.self.checks)) × (length l.line ≡ l.check-index)
