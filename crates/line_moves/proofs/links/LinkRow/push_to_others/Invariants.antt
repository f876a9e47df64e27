use Rattle.line_moves.proofs.RoomLemmas.{AreSent}
use Rattle.line_moves.proofs.links.LinkRow.push_to_others.Given as goal

abbrev pub invariant-loop-q : goal.invariant-loop-q
invariant-loop-q l =
    AreSent l.own l.item l.q l.initial.self-inside.queues.items l.self-inside.queues.items
