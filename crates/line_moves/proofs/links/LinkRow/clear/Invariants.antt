use Rattle.line_moves.proofs.CountLemmas.{AreCleared}
use Rattle.line_moves.proofs.links.LinkRow.clear.Given as goal

abbrev pub invariant-loop-q : goal.invariant-loop-q
invariant-loop-q l = AreCleared l.q l.initial.self-inside.queues.items l.self-inside.queues.items
