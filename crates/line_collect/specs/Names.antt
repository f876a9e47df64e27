-- The names of reports, which the first fields of records spell.
use Rattle.std.specs.Prelude.{ℕ, List, codes}
use Rattle.line_collect.specs.declared.names.ReportName.{ReportName}
use Rattle.line_collect.specs.declared.names.ReportName.TheVariants as names

-- the text of a report's name
abbrev pub report_name_text : ReportName → List ℕ
report_name_text names.Send = codes "send"
report_name_text names.Recv = codes "recv"
report_name_text names.Check = codes "check"
report_name_text names.Mark = codes "mark"
report_name_text names.Damage = codes "damage"
report_name_text names.Bar = codes "bar"
report_name_text names.Plan = codes "plan"
report_name_text names.Live = codes "live"
report_name_text names.Recover = codes "recover"
report_name_text names.Forget = codes "forget"
report_name_text names.History = codes "history"
report_name_text names.Bundle = codes "bundle"
