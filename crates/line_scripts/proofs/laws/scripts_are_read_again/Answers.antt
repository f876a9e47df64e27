use Rattle.line_scripts.proofs.AgainLemmas.{text_again}
use Rattle.line_scripts.proofs.laws.scripts_are_read_again.Goals as goal

pub returns : goal.returns
returns c script fit = text_again script fit
