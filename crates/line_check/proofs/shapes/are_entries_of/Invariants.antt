use Rattle.std.proofs.Common.{All, take}
use Rattle.line_check.specs.Shape.{IsEntryOf}
use Rattle.line_check.proofs.shapes.are_entries_of.Given as goal

abbrev pub invariant-loop-entry : goal.invariant-loop-entry
invariant-loop-entry l = All (IsEntryOf l.history.processes) (take l.entry-index l.entries)
