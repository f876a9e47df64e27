use Rattle.line_text.proofs.WindowLemmas.{taken_of_script}
use Rattle.line_text.proofs.windows.ScriptReaderLineReader.take_piece.Goals as goal

pub returns : goal.returns
returns c = taken_of_script c.take.result _ _ _ c.take.ensures
