-- Plans whose numbers can be brought back. No contract that a caller reads needs this.
use Rattle.std.specs.Prelude.{All}
use Rattle.line_collect.specs.Lives.{AreReceiptsNumbered, LiveCollectionView}
use Rattle.line_cuts.specs.Cuts.{Floor}
use Rattle.line_cuts.specs.Floors.{HasNumbers}
use Rattle.line_cuts.specs.Numbers.{IsNumbered, IsNumberedEntry, IsNumberedLine}
use Rattle.line_plan.specs.declared.plans.Plan.{Plan}

-- all of a plan has numbers in the whole
pub record IsToldPlan (floor : Floor) (plan : Plan) : Type 0 where
  pub line : IsNumberedLine floor plan.line
  pub certificate : All (IsNumberedEntry floor) plan.certificate.items
  pub replays : All (IsNumbered floor) plan.replays.items

-- there are numbers for what was let go, and for each message that was received
pub record HasWholeNumbers (live : LiveCollectionView) : Type 0 where
  pub numbers : HasNumbers live.floor
  pub named : AreReceiptsNumbered live.floor live.kept.history
