-- The law, by what each floor leaves.
use Rattle.line_live.proofs.TwoForgets.{machine_both}
use Rattle.line_live.proofs.machine_laws.forgets_as_one.Goals as goal

pub returns : goal.returns
returns c = machine_both
