use Rattle.std.proofs.Common.{◌≡◌, ◌≢◌, ◌≤◌, ℕ, length}
use Rattle.line_tape.specs.Survival.{is_damaged}
use Rattle.line_cuts.specs.Cuts.{floor_check}
use Rattle.line_cuts.specs.Marks.{is_left_damaged}
use Rattle.line_cuts.proofs.marked.cut_damaged.Given as goal

abbrev pub invariant-loop-check : goal.invariant-loop-check
invariant-loop-check l = record {
  count : length l.cut.damaged ≡ length l.initial.cut.damaged;
  bars : l.cut.bars ≡ l.initial.cut.bars;
  marked : (c : ℕ) → is_damaged l.cut l.p c ≡ is_left_damaged l.marks l.floor l.p l.check c;
  others : (q c : ℕ) → q ≢ l.p → is_damaged l.cut q c ≡ is_damaged l.initial.cut q c;
  above : floor_check l.floor l.p ≤ l.check;
}
