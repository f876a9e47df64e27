-- The law of the machine that is left, and that the order of marks decides nothing.
use Rattle.line_live.proofs.AlikeLemmas.{kept_alike}
use Rattle.line_live.proofs.laws.kept_machines_answer_as_whole.Goals as goal

pub returns : goal.returns
returns c floor whole kept new step answer beside spares same takes =
    kept_alike floor whole kept new step answer beside spares same takes
