use Rattle.std.proofs.Common.{map}
use Rattle.line_tape.specs.declared.items.Item.TheVariants.{Message}
use Rattle.line_rounds.proofs.ChannelLemmas.{ArePut}
use Rattle.line_moves.specs.Rooms.{items_held, HaveRoom}
use Rattle.line_moves.specs.Worlds.{AreQueues}
use Rattle.line_moves.proofs.restarts.put_messages.Given as goal

abbrev pub invariant-loop-message : goal.invariant-loop-message
invariant-loop-message l = record {
  queued : AreQueues l.history.processes (map items_held l.rows.items);
  put : ArePut (λ m. Message m) l.history.processes
      (map items_held l.fn.rows.items) l.messages l.message-index (map items_held l.rows.items);
  room : HaveRoom l.history.processes l.messages l.message-index l.rows.items;
}
