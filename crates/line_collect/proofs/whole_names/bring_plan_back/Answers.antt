-- The names, and the line.
use Rattle.std.proofs.Common.{refl}
use Rattle.line_collect.proofs.whole_names.bring_plan_back.Goals as goal

pub returns : goal.returns
returns c = rw c.bring_line.ensures (rw c.bring_names_back.ensures refl)
