use Rattle.line_moves.proofs.OpenFacts.{AreFresh}
use Rattle.line_moves.proofs.openings.fresh_markers.Given as goal

abbrev pub invariant-loop-q : goal.invariant-loop-q
invariant-loop-q l = AreFresh l.n 0 l.q l.markers.items
