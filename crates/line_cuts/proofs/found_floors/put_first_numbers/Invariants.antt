use Rattle.std.proofs.Common.{◌≡◌, ◌≤◌, ℕ, length, drop, get_or, vec_len}
use Rattle.line_cuts.specs.Floors.{sends_up_to}
use Rattle.line_cuts.proofs.found_floors.put_first_numbers.Given as goal

abbrev pub invariant-loop-left : goal.invariant-loop-left
invariant-loop-left l = record {
  few : l.left ≤ length l.messages.items;
  count : vec_len l.counts ≡ vec_len l.initial.counts;
  first : (p : ℕ) → get_or l.counts.items p 0
      ≡ sends_up_to p (drop l.left l.messages.items) (get_or l.initial.counts.items p 0);
}

abbrev pub decreases-loop-left : goal.decreases-loop-left
decreases-loop-left l = l.left
