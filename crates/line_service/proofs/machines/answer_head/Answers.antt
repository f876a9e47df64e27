use Rattle.std.specs.Prelude.{Ok}
use Rattle.line_service.specs.Services.{Empty}
use Rattle.line_service.proofs.machines.answer_head.Goals as goal

pub returns-in-Err-clause-err : goal.returns-in-Err-clause-err
returns-in-Err-clause-err g c =
    c.answer_dropped.ensures.err Empty _ (Ok c.args.row.now) c.in-Err.ensures.err
