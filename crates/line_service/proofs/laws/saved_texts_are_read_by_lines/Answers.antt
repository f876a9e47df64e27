use Rattle.line_text.proofs.TextLemmas.{heard_whole}
use Rattle.line_service.proofs.FileLemmas.{read_by_lines}
use Rattle.line_service.proofs.laws.saved_texts_are_read_by_lines.Goals as goal

pub returns : goal.returns
returns c text allowed short = read_by_lines text allowed (heard_whole text allowed short)
