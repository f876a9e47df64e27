-- Which reports keep to the ranges that the fields of their records have.
use Rattle.std.specs.Prelude.{◌≡◌, ℕ, ◌<◌, Bool, List, IsTrue, Some}
use Rattle.line_names.specs.Sets.{is_member}
use Rattle.line_fields.specs.declared.faults.Fault.TheVariants as faults
use Rattle.line_fields.specs.Faults.{code_of}
use Rattle.line_claims.specs.Ranges.{IsRoundNumber}
use Rattle.line_collect.specs.declared.reports.Report.{Report}
use Rattle.line_collect.specs.declared.reports.Report.TheVariants.{Send, Receive, Check, Mark}
use Rattle.line_collect.specs.declared.reports.Report.TheVariants.{Damage, Bar, Plan, Live, Recover}
use Rattle.line_collect.specs.declared.reports.Report.TheVariants.{Forget, History, Bundle, Refused}

-- all of these processes are below n
abbrev pub AreMembersBelow : ℕ → List Bool → Type 0
AreMembersBelow n set = (p : ℕ) → IsTrue (is_member set p) → p < n

-- a report names processes below n alone, and its round, if it has one, is from 1 to 65,535; what
-- is refused names a process that there is not
abbrev pub IsReportInRange : ℕ → Report → Type 0
IsReportInRange n (Send by inc to body) = (by < n) × (to < n)
IsReportInRange n (Receive by inc message) = (by < n) × (message.from < n)
IsReportInRange n (Check by inc state round) = (by < n) × IsRoundNumber round
IsReportInRange n (Mark by inc sender round) =
    (by < n) × (sender < n) × IsRoundNumber (Some round)
IsReportInRange n (Damage by check) = by < n
IsReportInRange n (Bar by check) = by < n
IsReportInRange n (Plan failed) = AreMembersBelow n failed
IsReportInRange n Live = Unit {0}
IsReportInRange n (Recover failed) = AreMembersBelow n failed
IsReportInRange n Forget = Unit {0}
IsReportInRange n History = Unit {0}
IsReportInRange n (Bundle failed) = AreMembersBelow n failed
IsReportInRange n (Refused code) = code ≡ code_of faults.NoSuchProcess
