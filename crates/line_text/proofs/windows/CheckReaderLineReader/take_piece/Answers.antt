use Rattle.line_text.proofs.WindowLemmas.{taken_of_check}
use Rattle.line_text.proofs.windows.CheckReaderLineReader.take_piece.Goals as goal

pub returns : goal.returns
returns c = taken_of_check c.take.result _ _ _ c.take.ensures
