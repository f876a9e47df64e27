use Rattle.line_scripts.proofs.ScriptPlaceLemmas.{nothing_taken}
use Rattle.line_scripts.proofs.pieces.ScriptReader.new.Goals as goal

pub returns : goal.returns
returns c = λ text. nothing_taken text
