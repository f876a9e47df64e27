-- A first field that is the name of no report.
use Rattle.std.proofs.Common.{◌≡◌, ◌≢◌, ℕ, List, false, Err, refl, sym, inl, inr}
use Rattle.std.specs.Str.{bytes_eq}
use Rattle.std.proofs.lemmas.Bool.{cases_Bool}
use Rattle.std.proofs.lemmas.Slice.Eq.{bytes_eq-Decides}
use Rattle.line_fields.specs.declared.faults.Fault.TheVariants as faults
use Rattle.line_fields.specs.Records.{Record, field}
use Rattle.line_collect.specs.declared.names.ReportName.{ReportName}
use Rattle.line_collect.specs.declared.names.ReportName.TheVariants as names
use Rattle.line_collect.specs.Names.{report_name_text}
use Rattle.line_collect.specs.Reports.{report_in}

other_text : (xs ys : List ℕ) → xs ≢ ys → bytes_eq xs ys ≡ false
other_text xs ys other = elim (cases_Bool (bytes_eq xs ys))
    [ inl e ↦ absurd (other ((bytes_eq-Decides xs ys).0 e)) | inr e ↦ e ]

named_otherwise : (n : ℕ) (r : Record) → ((name : ReportName)
    → bytes_eq (field r 0) (report_name_text name) ≡ false) → report_in n r ≡ Err faults.BadRecord
unfolding report_in
named_otherwise n r other =
    rw (
      other names.Send,
      other names.Recv,
      other names.Check,
      other names.Mark,
      other names.Damage,
      other names.Bar,
      other names.Plan,
      other names.Live,
      other names.Recover,
      other names.Forget,
      other names.History,
      other names.Bundle,
    ) refl

-- such a record spells no report
pub no_report : (n : ℕ) (r : Record) (first : List ℕ) → first ≡ field r 0
    → ((name : ReportName) → first ≢ report_name_text name) → report_in n r ≡ Err faults.BadRecord
no_report n r first is other = named_otherwise n r
    (λ name. other_text (field r 0) (report_name_text name) (rw (sym is) (other name)))
