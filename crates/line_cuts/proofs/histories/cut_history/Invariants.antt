use Rattle.std.proofs.Common.{◌≡◌, ◌<◌, ◌≤◌, ℕ, length}
use Rattle.line_tape.specs.History.{fresh, process_at}
use Rattle.line_cuts.proofs.StepCuts.{cut_process}
use Rattle.line_cuts.proofs.histories.cut_history.Given as goal

abbrev pub invariant-loop-q : goal.invariant-loop-q
invariant-loop-q l = record {
  count : length l.cut.processes ≡ length l.history.processes;
  done : (p : ℕ) → p < l.q
      → process_at l.cut.processes p ≡ cut_process l.floor p (process_at l.history.processes p);
  left : (p : ℕ) → l.q ≤ p → process_at l.cut.processes p ≡ fresh;
}
