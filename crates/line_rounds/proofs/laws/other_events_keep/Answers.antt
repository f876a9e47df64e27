use Rattle.line_rounds.proofs.FlagLemmas.{AreFlagged-other}
use Rattle.line_rounds.proofs.TurnedLemmas.{AreTurned-kept}
use Rattle.line_rounds.proofs.TurningLemmas.{IsTurning-kept}
use Rattle.line_rounds.proofs.laws.other_events_keep.Goals as goal

pub returns-clause-colours : goal.returns-clause-colours
returns-clause-colours c = AreTurned-kept

pub returns-clause-turning : goal.returns-clause-turning
returns-clause-turning c = IsTurning-kept

pub returns-clause-received : goal.returns-clause-received
returns-clause-received c = AreFlagged-other
