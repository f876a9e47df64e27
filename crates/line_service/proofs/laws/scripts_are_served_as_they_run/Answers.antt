use Rattle.std.proofs.Common.{ap}
use Rattle.line_fields.specs.Texts.{records_text}
use Rattle.line_service.proofs.LawLemmas.{good_as_run, run_as_served, served_as_run, spelt_allowed}
use Rattle.line_service.proofs.LawLemmas.{texts_alike}
use Rattle.line_text.proofs.TextLemmas.{heard_whole}
use Rattle.line_service.proofs.laws.scripts_are_served_as_they_run.Goals as goal

pub returns-clause-served : goal.returns-clause-served
returns-clause-served c text script answers new spelt short served good = run_as_served text script
    answers new spelt (heard_whole text (spelt_allowed text script spelt) short) served good

pub returns-clause-run : goal.returns-clause-run
returns-clause-run c text script answers new spelt short run = (
  served_as_run text script answers new spelt
      (heard_whole text (spelt_allowed text script spelt) short) run,
  good_as_run script answers new run,
)

pub returns-clause-texts : goal.returns-clause-texts
returns-clause-texts c told = ap records_text (texts_alike told)
