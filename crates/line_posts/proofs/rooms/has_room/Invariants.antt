use Rattle.std.proofs.Common.{◌≡◌, length}
use Rattle.line_posts.specs.Ends.{out_ends, HasRoomBelow}
use Rattle.line_posts.proofs.rooms.has_room.Given as goal

abbrev pub invariant-loop-q : goal.invariant-loop-q
invariant-loop-q g l = record {
  ends : out_ends l.outs.items ≡ out_ends l.fn.outs.items;
  long : length l.outs.items ≡ length l.fn.outs.items;
  room : HasRoomBelow l.q l.outs.items;
}
