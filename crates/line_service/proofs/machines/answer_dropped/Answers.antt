use Rattle.line_service.proofs.TextLemmas.{dropped_front}
use Rattle.line_service.proofs.machines.answer_dropped.Goals as goal

pub returns-in-Err-clause-err : goal.returns-in-Err-clause-err
returns-in-Err-clause-err g c old new one heard =
    dropped_front old one c.args.error _ _ c.args.writer.now heard c.in-Err.ensures.err
