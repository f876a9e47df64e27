use Rattle.line_scripts.proofs.AgainLemmas.{saved_text_again}
use Rattle.line_scripts.proofs.laws.scripts_of_saved_machines_are_read_again.Goals as goal

pub returns : goal.returns
returns c parts commands fit all = saved_text_again parts commands fit all
