use Rattle.line_service.proofs.FileLemmas.{read_whole}
use Rattle.line_service.proofs.files.read_file.Goals as goal

pub returns-in-Ok-clause-done : goal.returns-in-Ok-clause-done
returns-in-Ok-clause-done g c =
    let heard = rw c.new.ensures at c.in-Ok.ensures.done in
    rw c.into_read.ensures (heard.text, heard.gives, read_whole _ _ heard.answers heard.serves)
