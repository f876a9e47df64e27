use Rattle.line_cuts.specs.Cuts.{whole_name}
use Rattle.line_cuts.proofs.MappedItems.{IsMappedUpTo}
use Rattle.line_cuts.proofs.whole_names.bring_names.Given as goal

abbrev pub invariant-loop-i : goal.invariant-loop-i
invariant-loop-i l = IsMappedUpTo (whole_name l.floor) l.initial.names l.i l.names
