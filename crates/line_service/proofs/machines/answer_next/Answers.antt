use Rattle.std.specs.Prelude.{Ok}
use Rattle.line_service.specs.Served.{standing_of}
use Rattle.line_service.proofs.machines.answer_next.Goals as goal

pub returns-in-Err-clause-err : goal.returns-in-Err-clause-err
returns-in-Err-clause-err g c = c.answer_dropped.ensures.err (standing_of c.args.served.now) _
    (Ok c.args.row.now) c.in-Err.ensures.err
