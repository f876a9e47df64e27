use Rattle.std.proofs.Common.{Result, subst}
use Rattle.line_fields.specs.declared.faults.ReadError.{ReadError}
use Rattle.line_fields.specs.Fields.{Gives}
use Rattle.line_collect.specs.declared.keeping.KeptReport.{KeptReport}
use Rattle.line_collect.specs.declared.reports.Report.{Report}
use Rattle.line_collect.specs.Keeping.{report_with_bytes}
use Rattle.line_collect.specs.Reports.{report_in}
use Rattle.line_collect.proofs.RangeLemmas.{spelled_within}
use Rattle.line_collect.proofs.readers.ReportReader.read.Goals as goal

pub returns-in-Ok-clause-range : goal.returns-in-Ok-clause-range
returns-in-Ok-clause-range c =
    let seen : KeptReport → Report = λ kept. report_with_bytes kept c.report_in.new.bytes.items in
    spelled_within c.args.n c.args.row.now (seen c.in-Ok.kept)
    (subst (λ (read : Result KeptReport ReadError). Gives seen read
    (report_in c.args.n c.args.row.now)) c.in-Ok.is c.report_in.ensures)
