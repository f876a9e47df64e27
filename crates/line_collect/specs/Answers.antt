-- What a report is answered, and what is collected then.
use Rattle.std.specs.Prelude.{◌≡◌, ◌≢◌, ℕ, Bool, List, [], ◌∷◌, ◌++◌}
use Rattle.std.specs.Prelude.{length, map, codes, decimal, None, Result, Ok, Err}
use Rattle.std.specs.List.{range_with_len}
use Rattle.line_text.specs.Answers.{IsEverybody}
use Rattle.line_text.specs.Replies.{barred_record, checked_record, damaged_record, pass_records}
use Rattle.line_text.specs.Replies.{process_record, recovered_record, replay_records}
use Rattle.line_text.specs.Replies.{refusal_record, sent_record, took_record}
use Rattle.line_claims.specs.Claims.{Claim}
use Rattle.line_claims.specs.Numbers.{none_text}
use Rattle.line_claims.specs.Records.{check_records, history_records, in_order}
use Rattle.line_fields.specs.Records.{Record}
use Rattle.line_moves.specs.Moves.{next_check}
use Rattle.line_moves.specs.Restarts.{restored_state}
use Rattle.line_names.specs.declared.choices.Choice.{Choice}
use Rattle.line_names.specs.Lines.{choice_at}
use Rattle.line_plan.specs.declared.plans.Plan.{Plan}
use Rattle.line_collect.specs.declared.reports.Report.{Report}
use Rattle.line_collect.specs.declared.reports.Report.TheVariants as reports
use Rattle.line_tape.specs.declared.events.Event.TheVariants as events
use Rattle.line_tape.specs.History.{Process, incarnation_at, tape_at}
use Rattle.line_tape.specs.Restart.{restarted_incarnation}
use Rattle.line_tape.specs.Spent.{next_name}
use Rattle.line_tape.specs.Views.{with_bar, with_mark}
use Rattle.line_collect.specs.declared.refusals.CollectError.{CollectError}
use Rattle.line_collect.specs.declared.refusals.CollectError.TheVariants.{OutOfMemory}
use Rattle.line_collect.specs.declared.tellings.Told.{Told}
use Rattle.line_collect.specs.declared.tellings.Told.TheVariants as tolds
use Rattle.line_collect.specs.Collections.{CollectionView, IsPlanOf, IsPlanToGoBack, gone_back}
use Rattle.line_collect.specs.Collections.{with_report}
use Rattle.line_collect.specs.Refusals.{IsRefusedBy, refusal_of_report, report_error_code}

-- marked,ROUND,-
abbrev pub mark_taken_record : ℕ → Record
mark_taken_record round = codes "marked" ∷ decimal round ∷ none_text ∷ []

-- the record that tells what became of a report that was taken
abbrev pub told_record : Told → Record
told_record (tolds.Sent message) = sent_record message
told_record (tolds.Took message) = took_record message None
told_record (tolds.Checked at check) = checked_record at check
told_record (tolds.Marked round) = mark_taken_record round
told_record (tolds.Damaged at check) = damaged_record at check
told_record (tolds.Barred at check) = barred_record at check

-- line,P,CHOICE,INC,HEX: where process p would go on, under which incarnation and from which state
abbrev pub going_on_record : List Process → List Choice → ℕ → Record
going_on_record history line p =
    process_record p (choice_at line p)
    (restarted_incarnation (choice_at line p) (incarnation_at history p))
    (restored_state (tape_at history p) (choice_at line p))

-- the line records of all processes
abbrev pub going_on_records : List Process → List Choice → List Record
going_on_records history line =
    map (going_on_record history line) (range_with_len 0 (length history))

-- the records of a plan, the first of which begins with this word, with these line records
abbrev pub plan_records_with : List ℕ → List Record → Plan → List Record
plan_records_with word lines plan =
    recovered_record word plan.sweeps (length plan.certificate.items) (length plan.replays.items)
    ∷ (lines ++ (pass_records plan.certificate.items ++ replay_records plan.replays.items))

-- the records of a plan, the first of which begins with this word
abbrev pub plan_records : List ℕ → List Process → Plan → List Record
plan_records word history plan =
    plan_records_with word (going_on_records history plan.line) plan

-- the claim of a plan for these failed
abbrev pub claim_of_plan : CollectionView → List Bool → Plan → Claim
claim_of_plan old failed plan = record {
  marks = in_order old.history old.marks;
  failed = failed;
  line = plan.line;
  certificate = plan.certificate.items;
  starts = [];
  replays = [];
}

-- a plan where these failed may be told so, and changes nothing
abbrev pub Plans : CollectionView → List Bool → List Record → CollectionView → Type 0
Plans old failed records new =
    (plan : Plan) × IsPlanToGoBack old failed plan
    × (records ≡ plan_records (codes "planned") old.history plan) × (new ≡ old)

-- a report that is not refused may be answered by these records, and leaves new; nothing is let go
abbrev pub DoesAsReported : CollectionView → Report → List Record → CollectionView → Type 0
DoesAsReported old (reports.Send by inc to body) records new =
    (records ≡ sent_record (next_name old.history by) ∷ [])
    × (new ≡ with_report old by (events.Send to inc body))
DoesAsReported old (reports.Receive by inc message) records new =
    (records ≡ took_record message None ∷ []) × (new ≡ with_report old by (events.Recv message))
DoesAsReported old (reports.Check by inc state round) records new =
    (records ≡ checked_record by (next_check old.history by) ∷ [])
    × (new ≡ with_report old by (events.Check state round))
DoesAsReported old (reports.Mark by inc sender round) records new =
    (records ≡ mark_taken_record round ∷ []) × (new ≡ with_report old by (events.Mark sender round))
DoesAsReported old (reports.Damage by check) records new =
    (records ≡ damaged_record by check ∷ [])
    × (new ≡ record old { marks = with_mark old.marks by check })
DoesAsReported old (reports.Bar by check) records new =
    (records ≡ barred_record by check ∷ [])
    × (new ≡ record old { marks = with_bar old.marks by check })
DoesAsReported old (reports.Plan failed) records new = Plans old failed records new
DoesAsReported old reports.Live records new =
    (failed : List Bool) × IsEverybody (length old.history) failed × Plans old failed records new
DoesAsReported old (reports.Recover failed) records new =
    (plan : Plan) × IsPlanToGoBack old failed plan
    × (records ≡ plan_records (codes "recovered") old.history plan)
    × (new ≡ gone_back old plan.line)
DoesAsReported old reports.Forget records new = ⊥
DoesAsReported old reports.History records new =
    (records ≡ history_records old.history) × (new ≡ old)
DoesAsReported old (reports.Bundle failed) records new =
    (plan : Plan) × IsPlanOf old failed plan
    × (records ≡ check_records old.history (claim_of_plan old failed plan)) × (new ≡ old)
DoesAsReported old (reports.Refused code) records new = ⊥

-- what a report is answered: the number of its refusal, or records
pub data ReportAnswer : Type 0 where
  Refused : ℕ → ReportAnswer
  Given : List Record → ReportAnswer

-- the records of an answer
abbrev pub report_answer_records : ReportAnswer → List Record
report_answer_records (Refused code) = refusal_record code ∷ []
report_answer_records (Given records) = records

-- a report may be answered so, and leaves new
abbrev pub AnswersReport : CollectionView → Report → ReportAnswer → CollectionView → Type 0
AnswersReport old report (Refused code) new = IsRefusedBy old report code × (new ≡ old)
AnswersReport old report (Given records) new =
    (refusal_of_report old report ≡ None) × DoesAsReported old report records new

-- a call took a report; or did not, since it is refused, or since memory is out and nothing refuses
-- it, and then nothing changed
abbrev pub TakesReport : CollectionView → Report → Result Told CollectError → CollectionView
    → Type 0
TakesReport old report (Ok told) new = AnswersReport old report (Given (told_record told ∷ [])) new
TakesReport old report (Err error) new =
    (new ≡ old) × (error ≢ OutOfMemory → IsRefusedBy old report (report_error_code error))
    × (error ≡ OutOfMemory → refusal_of_report old report ≡ None)
