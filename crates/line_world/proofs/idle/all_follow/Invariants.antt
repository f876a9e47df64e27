use Rattle.std.proofs.Common.{◌≡◌, ◌<◌, ◌+◌, ℕ, length}
use Rattle.line_tape.specs.History.{tape_at}
use Rattle.line_world.specs.Deliveries.{HasRoundsUpTo}
use Rattle.line_world.proofs.idle.all_follow.Given as goal

abbrev pub invariant-loop-i : goal.invariant-loop-i
invariant-loop-i l = record {
  count : length l.flags.items ≡ l.last + 1;
  follow : (p : ℕ) → p < l.i → HasRoundsUpTo l.last (tape_at l.history.processes p);
}
