use Rattle.std.proofs.Common.{◌≡◌, map}
use Rattle.line_moves.specs.Rooms.{items_held, AreUncounted}
use Rattle.line_moves.proofs.restarts.count_none.Given as goal

abbrev pub invariant-loop-message : goal.invariant-loop-message
invariant-loop-message l = record {
  same : map items_held l.rows.items ≡ map items_held l.fn.rows.items;
  none : AreUncounted l.history.processes l.messages l.message-index l.rows.items;
}
