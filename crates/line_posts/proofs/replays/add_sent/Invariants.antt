use Rattle.std.proofs.Common.{◌≡◌, length, take, drop}
use Rattle.line_tape.specs.Event.{sends}
use Rattle.line_posts.specs.Replays.{packets_of, total, AreOfSender, AreSorted}
use Rattle.line_posts.proofs.replays.add_sent.Given as goal

abbrev pub invariant-loop-i : goal.invariant-loop-i
invariant-loop-i l = record {
  number_is : l.number ≡ sends (take l.i l.tape.events);
  left_is : l.left ≡ total l.counts.items;
  long : length l.counts.items ≡ length l.fn.counts.items;
  sorted : AreSorted l.fn.counts.items l.fn.p (sends (take l.i l.tape.events))
      (drop l.i l.tape.events) l.counts.items (packets_of l.packets.items);
  sender : AreOfSender (length l.fn.counts.items) l.fn.p (packets_of l.fn.packets.items)
      (packets_of l.packets.items);
}
