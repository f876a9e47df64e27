use Rattle.std.proofs.Common.{◌≤◌, ◌↔◌, drop}
use Rattle.std.specs.Prelude.{◌==◌}
use Rattle.std.specs.List.{filter_map}
use Rattle.line_tape.specs.Fit.{item_received, items_sent}
use Rattle.line_world.specs.Deliveries.{AreDelivered}
use Rattle.line_world.proofs.idle.are_delivered.Given as goal

abbrev pub invariant-loop-i : goal.invariant-loop-i
invariant-loop-i l = record {
  few : l.number ≤ l.i;
  left : AreDelivered (l.p == l.q) (filter_map (item_received l.p) (drop l.place l.received))
      (items_sent l.p l.q l.number (drop l.i l.sent))
      ↔ AreDelivered (l.p == l.q) (filter_map (item_received l.p) l.received)
      (items_sent l.p l.q 0 l.sent);
}
