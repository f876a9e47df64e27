-- How a report is kept beside the bytes that it carries. No contract that a caller reads needs
-- this.
use Rattle.std.specs.Prelude.{ℕ, List, Option, Some, None}
use Rattle.line_fields.specs.declared.faults.Fault.TheVariants as faults
use Rattle.line_fields.specs.Faults.{code_of}
use Rattle.line_collect.specs.declared.keeping.KeptReport.{KeptReport}
use Rattle.line_collect.specs.declared.keeping.KeptReport.TheVariants as kepts
use Rattle.line_collect.specs.declared.reports.Report.{Report}
use Rattle.line_collect.specs.declared.reports.Report.TheVariants.{Send, Receive, Check, Mark}
use Rattle.line_collect.specs.declared.reports.Report.TheVariants.{Damage, Bar, Plan, Live, Recover}
use Rattle.line_collect.specs.declared.reports.Report.TheVariants.{Forget, History, Bundle, Refused}

-- the report of what a record says of processes, if there are such
abbrev pub of_some_or_refused : {A : Type 0} → (A → Report) → Option A → Report
of_some_or_refused report None = Refused (code_of faults.NoSuchProcess)
of_some_or_refused report (Some found) = report found

-- the report that a kept one and its bytes make
abbrev pub report_with_bytes : KeptReport → List ℕ → Report
report_with_bytes (kepts.Send by inc to) bytes = Send by inc to bytes
report_with_bytes (kepts.Receive by inc message) bytes = Receive by inc message
report_with_bytes (kepts.Check by inc round) bytes = Check by inc bytes round
report_with_bytes (kepts.Mark by inc from round) bytes = Mark by inc from round
report_with_bytes (kepts.Damage by check) bytes = Damage by check
report_with_bytes (kepts.Bar by check) bytes = Bar by check
report_with_bytes (kepts.Plan failed) bytes = Plan failed
report_with_bytes kepts.Live bytes = Live
report_with_bytes (kepts.Recover failed) bytes = Recover failed
report_with_bytes kepts.Forget bytes = Forget
report_with_bytes kepts.History bytes = History
report_with_bytes (kepts.Bundle failed) bytes = Bundle failed
report_with_bytes (kepts.Refused code) bytes = Refused code
