use Rattle.std.proofs.Common.{◌≡◌, take}
use Rattle.line_claims.specs.SavedReadings.{rounds_view}
use Rattle.line_text.specs.Openings.{rounds_of_saved}
use Rattle.line_text.proofs.openings.rounds_of.Given as goal

abbrev pub invariant-each : goal.invariant-each
invariant-each l = l.checked.items ≡ rounds_of_saved (rounds_view (take l.i l.rounds))
