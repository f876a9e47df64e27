-- Which report a record spells, and the first fault where it spells none.
use Rattle.std.specs.Prelude.{ℕ, nat_le, nat_lt, ◌==◌, ◌&&◌, Bool, List, [], ◌∷◌, drop, fold}
use Rattle.std.specs.Prelude.{length, Result, Ok, Err, if◌then◌else◌, codes}
use Rattle.std.specs.Str.{bytes_eq}
use Rattle.std.specs.List.{list_all}
use Rattle.line_names.specs.Sets.{nobody, with_member}
use Rattle.line_fields.specs.declared.faults.Fault.{Fault}
use Rattle.line_fields.specs.declared.faults.Fault.TheVariants as faults
use Rattle.line_fields.specs.Faults.{code_of}
use Rattle.line_fields.specs.Fields.{◌>>=◌, want, hex}
use Rattle.line_fields.specs.Records.{Record, field}
use Rattle.line_fields.specs.Shapes.{alone, two, four, five}
use Rattle.line_claims.specs.declared.versions.TheConstants.{LAST_VERSION}
use Rattle.line_claims.specs.Numbers.{incarnation, numbers, plain, round, round_or_none}
use Rattle.line_claims.specs.Versions.{most_in}
use Rattle.line_collect.specs.declared.reports.Report.{Report}
use Rattle.line_collect.specs.declared.reports.Report.TheVariants.{Send, Receive, Check, Mark}
use Rattle.line_collect.specs.declared.reports.Report.TheVariants.{Damage, Bar, Plan, Live, Recover}
use Rattle.line_collect.specs.declared.reports.Report.TheVariants.{Forget, History, Bundle, Refused}

-- reports,V,N: the number of processes, as many as version V has room for
unfoldable pub reports_of : Record → Result ℕ Fault
reports_of r = do
  first ← want (bytes_eq (field r 0) (codes "reports")) faults.NoWorld
  long ← want (length r == 3) faults.BadRecord
  version ← plain (field r 1)
  n ← plain (field r 2)
  known ← want (nat_le 1 version && nat_le version LAST_VERSION) faults.BadVersion
  within ← want (nat_le 1 n && nat_le n (most_in version)) faults.BadCount
  Ok n

-- a report whose processes are all below n, else one that is refused
abbrev pub report_among : ℕ → List ℕ → Report → Report
report_among n processes report =
    if list_all (λ p. nat_lt p n) processes then report else Refused (code_of faults.NoSuchProcess)

-- send,P,INC,TO,HEX
unfoldable pub send_report : ℕ → Record → Result Report Fault
send_report n =
    four plain incarnation plain hex
    (λ by inc to body. Ok (report_among n (by ∷ to ∷ []) (Send by inc to body)))

-- recv,P,INC,FROM,FINC,NUMBER
unfoldable pub receive_report : ℕ → Record → Result Report Fault
receive_report n =
    five plain incarnation plain incarnation plain
    (λ by inc sender sent_under number. Ok (report_among n (by ∷ sender ∷ [])
    (Receive by inc (record { from = sender; inc = sent_under; number = number }))))

-- check,P,INC,HEX,ROUND
unfoldable pub check_report : ℕ → Record → Result Report Fault
check_report n =
    four plain incarnation hex round_or_none
    (λ by inc state of_round. Ok (report_among n (by ∷ []) (Check by inc state of_round)))

-- mark,P,INC,FROM,ROUND
unfoldable pub mark_report : ℕ → Record → Result Report Fault
mark_report n =
    four plain incarnation plain round
    (λ by inc sender of_round. Ok (report_among n (by ∷ sender ∷ []) (Mark by inc sender of_round)))

-- damage,P,C or bar,P,C: a report of a process and one of its checks
unfoldable pub report_of_check : (ℕ → ℕ → Report) → ℕ → Record → Result Report Fault
report_of_check report n =
    two plain plain (λ by check. Ok (report_among n (by ∷ []) (report by check)))

-- plan,P,.., recover,P,.. or bundle,P,..: a report of processes, of none where no field names one
unfoldable pub report_of_failed : (List Bool → Report) → ℕ → Record → Result Report Fault
report_of_failed report n r =
    numbers (drop 1 r) >>= λ failed. Ok
    (report_among n failed (report (fold with_member nobody failed)))

-- the report that a record spells, among n processes: the first field is its name
unfoldable pub report_in : ℕ → Record → Result Report Fault
report_in n r =
    if bytes_eq (field r 0) (codes "send") then send_report n r
    else if bytes_eq (field r 0) (codes "recv") then receive_report n r
    else if bytes_eq (field r 0) (codes "check") then check_report n r
    else if bytes_eq (field r 0) (codes "mark") then mark_report n r
    else if bytes_eq (field r 0) (codes "damage") then report_of_check Damage n r
    else if bytes_eq (field r 0) (codes "bar") then report_of_check Bar n r
    else if bytes_eq (field r 0) (codes "plan") then report_of_failed Plan n r
    else if bytes_eq (field r 0) (codes "live") then alone Live r
    else if bytes_eq (field r 0) (codes "recover") then report_of_failed Recover n r
    else if bytes_eq (field r 0) (codes "forget") then alone Forget r
    else if bytes_eq (field r 0) (codes "history") then alone History r
    else if bytes_eq (field r 0) (codes "bundle") then report_of_failed Bundle n r
    else Err faults.BadRecord
