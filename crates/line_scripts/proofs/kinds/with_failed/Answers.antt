use Rattle.std.proofs.Common.{◌∙◌, sym}
use Rattle.line_scripts.proofs.FailedLemmas.{failed_found, failed_not_read, failed_refused}
use Rattle.line_scripts.proofs.kinds.with_failed.Goals as goal

pub returns-in_ok-boxed-in-Ok : goal.returns-in_ok-boxed-in-Ok
returns-in_ok-boxed-in-Ok c command =
    rw c.in_ok-boxed-in-Ok.ensures (failed_found command c.args.n c.args.row.now c.in-Ok.failed
    (sym c.failed_of.ensures ∙ c.in-Ok.is))

pub returns-in-Err : goal.returns-in-Err
returns-in-Err c command =
    failed_refused command c.args.n c.args.row.now c.in-Err.fault (sym c.is_of_process.ensures ∙
    c.if-is_of_process.true) (sym c.failed_of.ensures ∙ c.in-Err.is)

pub returns-in-Err-2 : goal.returns-in-Err-2
returns-in-Err-2 c command =
    failed_not_read command c.args.n c.args.row.now c.in-Err.fault (sym c.is_of_process.ensures ∙
    c.if-is_of_process.false) (sym c.failed_of.ensures ∙ c.in-Err.is)
