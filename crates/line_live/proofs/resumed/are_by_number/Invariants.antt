use Rattle.std.proofs.Common.{◌<◌, ◌≤◌, ◌+◌, ℕ, get_or}
use Rattle.line_live.specs.Resumed.{CheckedRound}
use Rattle.line_live.proofs.resumed.are_by_number.Given as goal

abbrev pub invariant-each : goal.invariant-each
invariant-each l = record {
  begun : (k : ℕ) (d : CheckedRound) → k < l.i → (get_or l.rounds k d).number ≤ l.last;
  next : (k : ℕ) (d : CheckedRound) → k + 1 < l.i
      → (get_or l.rounds k d).number < (get_or l.rounds (k + 1) d).number;
}
