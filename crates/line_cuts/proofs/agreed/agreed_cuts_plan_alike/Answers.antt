use Rattle.line_cuts.proofs.AgreedChains.{chain_whole}
use Rattle.line_cuts.proofs.AgreedLatest.{latest_whole, whole_from_floor}
use Rattle.line_cuts.proofs.AgreedTransit.{transit_cut}
use Rattle.line_cuts.proofs.agreed.agreed_cuts_plan_alike.Goals as goal

pub returns-clause-latest : goal.returns-clause-latest
returns-clause-latest c history floor marks failed line agrees is stays latest =
    latest_whole floor history marks failed agrees is stays line latest

pub returns-clause-above : goal.returns-clause-above
returns-clause-above c history floor marks failed line agrees is stays latest =
    whole_from_floor floor history marks failed agrees is stays line latest

pub returns-clause-chain : goal.returns-clause-chain
returns-clause-chain c history floor marks failed entries line agrees is stays chain =
    chain_whole floor history marks failed agrees is stays entries line chain

pub returns-clause-transit : goal.returns-clause-transit
returns-clause-transit c history floor line is above = transit_cut floor history line above is
