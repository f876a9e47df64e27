use Rattle.line_collect.proofs.NameLemmas.{no_report}
use Rattle.line_collect.proofs.reports.report_in.Goals as goal

pub returns-in_default : goal.returns-in_default
returns-in_default c =
    no_report c.args.n c.args.row.now c.field.result.now c.field.ensures c.in_default.ensures.none
