use Rattle.std.proofs.Common.{ap}
use Rattle.line_claims.specs.Saved.{saved_alone}
use Rattle.line_claims.specs.SavedReadings.{saved_view}
use Rattle.line_service.proofs.file_reads.open_spelt.Goals as goal

pub returns-in-Ok-open_saved-clause-ok : goal.returns-in-Ok-open_saved-clause-ok
returns-in-Ok-open_saved-clause-ok c =
    (saved_view c.in-Ok.saved, ap saved_alone c.in-Ok.ensures.ok, c.in-Ok-open_saved.ensures.ok)
