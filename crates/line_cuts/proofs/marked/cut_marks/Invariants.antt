use Rattle.std.proofs.Common.{◌≡◌, ◌<◌, ◌≤◌, ℕ, false, length, None}
use Rattle.line_tape.specs.Survival.{is_damaged}
use Rattle.line_tape.specs.Views.{bar_at}
use Rattle.line_cuts.specs.Cuts.{cut_marks}
use Rattle.line_cuts.proofs.marked.cut_marks.Given as goal

abbrev pub invariant-loop-q : goal.invariant-loop-q
invariant-loop-q l = record {
  count : length l.cut.damaged ≡ length l.marks.damaged;
  bars_count : length l.cut.bars ≡ length l.marks.damaged;
  marked : (p c : ℕ) → p < l.q → is_damaged l.cut p c ≡ is_damaged (cut_marks l.floor l.marks) p c;
  unmarked : (p c : ℕ) → l.q ≤ p → is_damaged l.cut p c ≡ false;
  barred : (p : ℕ) → p < l.q → bar_at l.cut p ≡ bar_at (cut_marks l.floor l.marks) p;
  unbarred : (p : ℕ) → l.q ≤ p → bar_at l.cut p ≡ None;
}
