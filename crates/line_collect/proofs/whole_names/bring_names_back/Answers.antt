-- Two parts of the plan.
use Rattle.std.proofs.Common.{refl}
use Rattle.line_collect.proofs.whole_names.bring_names_back.Goals as goal

pub returns : goal.returns
returns c = rw c.bring_entries.ensures (rw c.bring_names.ensures refl)
