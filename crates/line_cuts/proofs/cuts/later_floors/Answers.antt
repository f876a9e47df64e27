use Rattle.line_cuts.proofs.LaterFloors.{floor_both, later_stays, rounds_both, survives_both}
use Rattle.line_cuts.proofs.cuts.later_floors.Goals as goal

pub returns-clause-floor : goal.returns-clause-floor
returns-clause-floor c floor later history fit is next some =
    floor_both floor later history is next some fit

pub returns-clause-survives : goal.returns-clause-survives
returns-clause-survives c floor later history marks is next some stays live =
    survives_both floor later history is next some marks stays live

pub returns-clause-rounds : goal.returns-clause-rounds
returns-clause-rounds c floor later history is next some rising old late =
    rounds_both floor later history is next some rising old late

pub returns-clause-latest : goal.returns-clause-latest
returns-clause-latest c floor later history marks failed fit is stays latest =
    later_stays floor later history marks failed fit is stays latest
