use Rattle.line_service.proofs.SavedLaws.{saved_served}
use Rattle.line_service.proofs.laws.saved_machines_are_served.Goals as goal

pub returns : goal.returns
returns c records saved answers new spelt none heard good =
    saved_served records saved answers new spelt none heard good
