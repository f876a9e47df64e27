use Rattle.std.proofs.Common.{◌<◌, ℕ}
use Rattle.line_names.specs.Lines.{choice_at}
use Rattle.line_cuts.specs.Numbers.{IsNumberedChoice}
use Rattle.line_posts.proofs.whole_names.is_numbered_line.Given as goal

abbrev pub invariant-loop-q : goal.invariant-loop-q
invariant-loop-q l = (p : ℕ) → p < l.q → IsNumberedChoice l.floor p (choice_at l.line p)
