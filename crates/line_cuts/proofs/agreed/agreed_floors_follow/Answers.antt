use Rattle.line_cuts.proofs.AgreedFloors.{floor_both, later_stays}
use Rattle.line_cuts.proofs.AgreedMarks.{marks_both}
use Rattle.line_cuts.proofs.agreed.agreed_floors_follow.Goals as goal

pub returns-clause-floor : goal.returns-clause-floor
returns-clause-floor c floor later history agrees is next some =
    floor_both floor later history is next some agrees

pub returns-clause-latest : goal.returns-clause-latest
returns-clause-latest c floor later history marks failed agrees is stays latest =
    later_stays floor later history marks failed agrees is stays latest

pub returns-clause-marks : goal.returns-clause-marks
returns-clause-marks c floor later history marks checks first some =
    marks_both floor later history marks checks first some
