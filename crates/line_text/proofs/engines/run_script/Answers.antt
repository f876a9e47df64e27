use Rattle.line_text.proofs.RunLemmas.{begun_once}
use Rattle.line_text.proofs.engines.run_script.Goals as goal

pub returns-clause-unbegun : goal.returns-clause-unbegun
returns-clause-unbegun g c = begun_once c.run_begun.result _ c.run_begun.ensures.codes
