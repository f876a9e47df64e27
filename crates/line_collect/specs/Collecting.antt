-- What a collector of reports, which may let go, answers to the records that it hears.
use Rattle.std.specs.Prelude.{◌≡◌, ℕ, List, [], ◌∷◌, length, Option, Some, None, Result, Ok}
use Rattle.line_text.specs.declared.outcomes.Outcome.{Outcome}
use Rattle.line_text.specs.declared.outcomes.Outcome.TheVariants as outcomes
use Rattle.line_text.specs.Rules.{Rules, error_code, fault_record}
use Rattle.line_fields.specs.declared.faults.Fault.{Fault}
use Rattle.line_fields.specs.declared.faults.ReadError.{ReadError}
use Rattle.line_fields.specs.Fields.{◌>>=◌, Fails}
use Rattle.line_fields.specs.Records.{Record}
use Rattle.line_collect.specs.declared.reports.Report.{Report}
use Rattle.line_collect.specs.Reports.{report_in, reports_of}
use Rattle.line_collect.specs.Answers.{Given, Refused, ReportAnswer}
use Rattle.line_collect.specs.Answers.{report_answer_records}
use Rattle.line_collect.specs.LiveAnswers.{AnswersLive}
use Rattle.line_collect.specs.Lives.{LiveCollectionView, nothing_live}

-- what a record is answered: collecting began; it was not done, since it has a fault or memory is
-- out; or its report was answered
pub data CollectAnswer : Type 0 where
  Began : CollectAnswer
  Faulted : ReadError → CollectAnswer
  Replied : ReportAnswer → CollectAnswer

-- the records of an answer
abbrev pub collect_answer_records : CollectAnswer → List Record
collect_answer_records Began = []
collect_answer_records (Faulted error) = fault_record (error_code error) ∷ []
collect_answer_records (Replied answer) = report_answer_records answer

-- the outcome of the answer to a report
abbrev pub report_outcome : ReportAnswer → Outcome
report_outcome (Refused code) = outcomes.Refused
report_outcome (Given records) = outcomes.Done

-- the outcome of an answer
abbrev pub collect_outcome : CollectAnswer → Outcome
collect_outcome Began = outcomes.Done
collect_outcome (Faulted error) = outcomes.Faulted
collect_outcome (Replied answer) = report_outcome answer

-- before collecting began, a record may be answered so: the first good one begins it
abbrev pub BeginsToCollect : Result ℕ Fault → CollectAnswer → Option LiveCollectionView → Type 0
BeginsToCollect read Began new = (n : ℕ) × (read ≡ Ok n) × (new ≡ Some (nothing_live n))
BeginsToCollect read (Faulted error) new = Fails error read × (new ≡ None)
BeginsToCollect read (Replied answer) new = ⊥

-- and then, a record may be answered so
abbrev pub Collects : LiveCollectionView → Result Report Fault → CollectAnswer
    → Option LiveCollectionView → Type 0
Collects old read Began new = ⊥
Collects old read (Faulted error) new = Fails error read × (new ≡ Some old)
Collects old read (Replied answer) new = (report : Report) × (read ≡ Ok report)
    × (later : LiveCollectionView) × AnswersLive old report answer later × (new ≡ Some later)

-- a record, or the fault of a line that is none, may be answered so, and leaves new
abbrev pub HearsReport : Option LiveCollectionView → Result Record Fault → CollectAnswer
    → Option LiveCollectionView → Type 0
HearsReport None one answer new = BeginsToCollect (one >>= reports_of) answer new
HearsReport (Some old) one answer new =
    Collects old (one >>= report_in (length old.kept.history)) answer new

-- how reports are answered: there is a collection once a first record was good
abbrev pub collect_rules : Rules (Option LiveCollectionView) CollectAnswer
collect_rules = record {
  hears = HearsReport;
  records = collect_answer_records;
  outcome = collect_outcome;
}
