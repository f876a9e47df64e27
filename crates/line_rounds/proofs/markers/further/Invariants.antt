use Rattle.std.proofs.Common.{◌-◌, length}
use Rattle.line_rounds.specs.Spans.{AreOver}
use Rattle.line_rounds.proofs.markers.further.Given as goal

abbrev pub invariant-further : goal.invariant-further
invariant-further l = AreOver l.p l.k l.rounds

abbrev pub decreases-further : goal.decreases-further
decreases-further l = length l.rounds - l.k
