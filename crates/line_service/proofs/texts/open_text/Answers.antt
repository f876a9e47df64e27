use Rattle.line_claims.specs.SavedReadings.{saved_view}
use Rattle.line_service.proofs.TextLemmas.{unopened_whole}
use Rattle.line_service.proofs.texts.open_text.Goals as goal

pub returns-clause-err : goal.returns-clause-err
returns-clause-err c = unopened_whole c.open_saved.result c.args.text.reader c.args.text.number
    (saved_view c.in-Ok.saved) c.requires c.in-Ok.ensures.ok c.open_saved.ensures.err
