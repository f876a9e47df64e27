use Rattle.std.proofs.Common.{◌∙◌, sym}
use Rattle.line_collect.proofs.FailedLemmas.{failed_found, failed_not_read, failed_refused}
use Rattle.line_collect.proofs.kinds.failed_or_none.Goals as goal

pub returns-in-Ok : goal.returns-in-Ok
returns-in-Ok c report = failed_found report c.args.n c.args.row.now c.in-Ok.failed
    (sym c.failed_of.ensures ∙ c.in-Ok.is)

pub returns-in-Err : goal.returns-in-Err
returns-in-Err c report =
    failed_refused report c.args.n c.args.row.now c.in-Err.fault (sym c.is_no_such_process.ensures ∙
    c.if-is_no_such_process.true) (sym c.failed_of.ensures ∙ c.in-Err.is)

pub returns-in-Err-2 : goal.returns-in-Err-2
returns-in-Err-2 c report =
    failed_not_read report c.args.n c.args.row.now c.in-Err.fault (sym c.is_no_such_process.ensures
    ∙ c.if-is_no_such_process.false) (sym c.failed_of.ensures ∙ c.in-Err.is)
