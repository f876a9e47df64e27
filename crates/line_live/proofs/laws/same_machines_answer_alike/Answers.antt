-- The law, by the kind of step.
use Rattle.line_live.proofs.AlikeLemmas.{machines_alike}
use Rattle.line_live.proofs.laws.same_machines_answer_alike.Goals as goal

pub returns : goal.returns
returns c old other new step answer same takes = machines_alike old other step answer new same takes
