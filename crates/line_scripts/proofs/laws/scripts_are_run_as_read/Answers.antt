use Rattle.line_scripts.proofs.RunScriptLemmas.{run_as_read, run_of_script}
use Rattle.line_scripts.proofs.laws.scripts_are_run_as_read.Goals as goal

pub returns-clause-records : goal.returns-clause-records
returns-clause-records c first rest other = run_as_read first rest other

pub returns-clause-texts : goal.returns-clause-texts
returns-clause-texts c text script spelt = run_of_script text script spelt
