use Rattle.std.proofs.Common.{◌≡◌, drop}
use Rattle.line_text.specs.Answers.{has_some}
use Rattle.line_text.proofs.texts.has_some.Given as goal

abbrev pub invariant-loop-i : goal.invariant-loop-i
invariant-loop-i l = has_some l.numbers ≡ has_some (drop l.i l.numbers)
