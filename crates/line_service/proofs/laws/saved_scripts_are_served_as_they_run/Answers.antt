use Rattle.std.proofs.Common.{ap}
use Rattle.line_fields.specs.Texts.{records_text}
use Rattle.line_service.proofs.SavedRuns.{run_spelt, saved_run_served, saved_texts_alike}
use Rattle.line_text.proofs.TextLemmas.{heard_whole}
use Rattle.line_service.proofs.laws.saved_scripts_are_served_as_they_run.Goals as goal

pub returns-clause-served : goal.returns-clause-served
returns-clause-served c text script parts answers new spelt machine short served good =
    let it = run_spelt text script spelt in
    saved_run_served text script parts answers new it.1 machine
    (heard_whole text it.0 short) served good

pub returns-clause-texts : goal.returns-clause-texts
returns-clause-texts c count told = ap records_text (saved_texts_alike count told)
