-- The report with what it carries lent.
use Rattle.line_collect.specs.declared.reports.Report.{Report}
use Rattle.line_collect.specs.declared.reports.Report.TheVariants.{Send, Receive, Check, Mark}
use Rattle.line_collect.specs.declared.reports.Report.TheVariants.{Damage, Bar, Plan, Live, Recover}
use Rattle.line_collect.specs.declared.reports.Report.TheVariants.{Forget, History, Bundle, Refused}
use Rattle.line_collect.specs.declared.reports.ReportRef.{ReportRef}
use Rattle.line_collect.specs.declared.reports.ReportRef.TheVariants as lent

-- the report that is lent so
abbrev pub report_of_ref : ReportRef → Report
report_of_ref (lent.Send by inc to body) = Send by inc to body.now
report_of_ref (lent.Receive by inc message) = Receive by inc message
report_of_ref (lent.Check by inc state round) = Check by inc state.now round
report_of_ref (lent.Mark by inc from round) = Mark by inc from round
report_of_ref (lent.Damage by check) = Damage by check
report_of_ref (lent.Bar by check) = Bar by check
report_of_ref (lent.Plan failed) = Plan failed.now
report_of_ref lent.Live = Live
report_of_ref (lent.Recover failed) = Recover failed.now
report_of_ref lent.Forget = Forget
report_of_ref lent.History = History
report_of_ref (lent.Bundle failed) = Bundle failed.now
report_of_ref (lent.Refused code) = Refused code
