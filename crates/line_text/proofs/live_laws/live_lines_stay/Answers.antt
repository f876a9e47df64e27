use Rattle.line_text.proofs.WholeLines.{live_stays}
use Rattle.line_text.proofs.live_laws.live_lines_stay.Goals as goal

pub returns : goal.returns
returns c old mid new answer line commands told failed later tells is run sparing planned =
    live_stays old mid new answer line commands told failed later tells is run sparing planned
