use Rattle.line_cuts.specs.Cuts.{whole_entry}
use Rattle.line_cuts.proofs.MappedItems.{IsMappedUpTo}
use Rattle.line_cuts.proofs.whole_names.bring_entries.Given as goal

abbrev pub invariant-loop-i : goal.invariant-loop-i
invariant-loop-i l = IsMappedUpTo (whole_entry l.floor) l.initial.entries l.i l.entries
