use Rattle.std.proofs.Common.{◌≡◌, ◌≢◌, ◌≤◌, ◌++◌, ℕ, length, drop}
use Rattle.line_tape.specs.History.{incarnation_at, process_at, tape_at}
use Rattle.line_cuts.specs.Cuts.{cut_events, cut_tape}
use Rattle.line_cuts.proofs.histories.cut_tape.Given as goal

abbrev pub invariant-loop-i : goal.invariant-loop-i
invariant-loop-i l = record {
  process : l.place.process ≡ l.fn.p;
  tape : tape_at l.cut.processes l.fn.p ++ cut_events l.floor l.fn.p l.place.number l.place.skip
      (drop l.i l.events) ≡ cut_tape l.floor l.fn.p l.events;
  few : length (tape_at l.cut.processes l.fn.p) ≤ l.i;
  number : l.place.number ≤ l.i;
  count : length l.cut.processes ≡ length l.initial.cut.processes;
  incarnation : incarnation_at l.cut.processes l.fn.p
      ≡ incarnation_at l.initial.cut.processes l.fn.p;
  others : (q : ℕ) → q ≢ l.fn.p
      → process_at l.cut.processes q ≡ process_at l.initial.cut.processes q;
}
