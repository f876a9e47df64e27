use Rattle.line_scripts.proofs.LaterLemmas.{same_as_spelled, same_numbered, same_text}
use Rattle.line_scripts.proofs.laws.version_2_reads_scripts_of_version_1.Goals as goal

pub returns-clause-records : goal.returns-clause-records
returns-clause-records c n mode rest few = same_numbered n mode rest few

pub returns-clause-texts : goal.returns-clause-texts
returns-clause-texts c text good = same_text text good

pub returns-clause-spelled : goal.returns-clause-spelled
returns-clause-spelled c text later h good = same_as_spelled text later h good
