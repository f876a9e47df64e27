use Rattle.line_scripts.specs.Reads.{script_view}
use Rattle.line_scripts.proofs.FaultLemmas.{read_codes}
use Rattle.line_scripts.proofs.scripts.read_script.Goals as goal

pub returns-in-Ok-false-clause-codes : goal.returns-in-Ok-false-clause-codes
returns-in-Ok-false-clause-codes c =
    read_codes script_view c.read_new.result _ c.read_new.ensures.exact
