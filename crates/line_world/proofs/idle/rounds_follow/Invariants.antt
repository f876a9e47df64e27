use Rattle.std.proofs.Common.{◌≡◌, length, take}
use Rattle.line_world.specs.Deliveries.{AreRoundsNoted, HasRoundsUpTo}
use Rattle.line_world.proofs.idle.rounds_follow.Given as goal

abbrev pub invariant-loop-i : goal.invariant-loop-i
invariant-loop-i l = record {
  count : length l.flags.items ≡ length l.fn.flags.items;
  noted : AreRoundsNoted l.last (take l.i l.events) l.flags.items;
  follow : HasRoundsUpTo l.last (take l.i l.events);
}
