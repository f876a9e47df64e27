use Rattle.std.proofs.Common.{◌≡◌, ◌<◌, ◌≤◌, ℕ, length}
use Rattle.line_names.specs.Lines.{choice_at}
use Rattle.line_cuts.specs.Cuts.{whole_choice}
use Rattle.line_cuts.proofs.whole_names.bring_line.Given as goal

abbrev pub invariant-loop-q : goal.invariant-loop-q
invariant-loop-q l = record {
  count : length l.line ≡ length l.initial.line;
  brought : (p : ℕ) → p < l.q
      → choice_at l.line p ≡ whole_choice l.floor p (choice_at l.initial.line p);
  left : (p : ℕ) → l.q ≤ p → choice_at l.line p ≡ choice_at l.initial.line p;
}
