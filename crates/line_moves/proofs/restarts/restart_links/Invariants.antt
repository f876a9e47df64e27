use Rattle.line_moves.proofs.CountLemmas.{AreRowsCleared}
use Rattle.line_moves.proofs.restarts.restart_links.Given as goal

abbrev pub invariant-loop-p : goal.invariant-loop-p
invariant-loop-p l = AreRowsCleared l.p l.initial.links-inside.rows.items l.links-inside.rows.items
