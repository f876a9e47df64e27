-- What is written of the answer to a report, and the answer to its record.
use Rattle.std.proofs.Common.{◌≡◌, ℕ, List, [], ◌∷◌, ◌++◌, append_assoc, length, Option, Bool, refl}
use Rattle.std.proofs.Common.{sym, subst, ap, inl, inr}
use Rattle.std.specs.Prelude.{Ok, Err, IfErr, IfOk, OnOk, Result, Some}
use Rattle.line_text.specs.Answers.{IsEverybody}
use Rattle.line_text.specs.declared.outcomes.Outcome.{Outcome}
use Rattle.line_text.specs.declared.stops.Stop.{Stop}
use Rattle.line_text.specs.declared.stops.Stop.TheVariants as stops
use Rattle.line_text.specs.Answerers.{AnswersOne, BlamesSink, StopsOne}
use Rattle.line_text.proofs.HeardLemmas.{one_front}
use Rattle.line_devices.specs.declared.devices.DeviceFault.{DeviceFault}
use Rattle.line_devices.specs.Devices.{Outputs, PutsButEnd, PutsFront}
use Rattle.line_devices.proofs.PutLemmas.{front_of_front}
use Rattle.line_fields.specs.declared.faults.ReadError.TheVariants as read_errors
use Rattle.line_fields.specs.Records.{Record}
use Rattle.line_fields.specs.Texts.{records_text}
use Rattle.line_collect.specs.declared.refusals.CollectError.{CollectError}
use Rattle.line_collect.specs.declared.reports.Report.{Report}
use Rattle.line_collect.specs.declared.reports.Report.TheVariants as reports
use Rattle.line_collect.specs.declared.tellings.Told.{Told}
use Rattle.line_collect.specs.Reports.{report_in}
use Rattle.line_collect.specs.Answers.{Given, Refused, ReportAnswer, report_answer_records}
use Rattle.line_collect.specs.Answers.{told_record}
use Rattle.line_collect.specs.Collecting.{Faulted, Replied, collect_rules, report_outcome}
use Rattle.line_collect.specs.LiveAnswers.{AnswersLive, DoesAsKept}
use Rattle.line_collect.specs.Lives.{DoesLive, LiveCollectionView, TakesLiveReport}
use Rattle.line_collect.specs.Laws.{out_of_memory_any_report}
use Rattle.line_collect.specs.Writing.{DoesReport, TellsLive, outcome_if_written}

-- an answer whose text was written
pub does_written : {A : Type 0} (old new : LiveCollectionView) (report : Report)
    (answer : ReportAnswer) (r : Result A DeviceFault) (taken now : Option (List ℕ))
    (faults after : ℕ) (held later text : List ℕ) (outcome : Outcome)
    → AnswersLive old report answer new → outcome ≡ report_outcome answer
    → records_text (report_answer_records answer) ≡ text
    → Outputs r taken now faults after later (held ++ text)
    → DoesReport old report (outcome_if_written r outcome) new taken now faults after held later
does_written old new report answer
    (Ok done) taken now faults after held later text outcome answers is same put = (
      record {
        answer = answer;
        answers = answers;
        outcome_is = is;
        put = subst
            (λ (t : List ℕ). PutsButEnd taken now later (held ++ t)) (sym same) put.ok;
      },
      put.sound,
    )
does_written old new report answer
    (Err failed) taken now faults after held later text outcome answers is same put = (
      record {
        answer = answer;
        new = new;
        answers = answers;
        put = subst
            (λ (t : List ℕ). PutsFront taken now (held ++ t)) (sym same) put.err;
      },
      put.failed,
    )

-- a report of what a process did is told by its record
does_told : (old new : LiveCollectionView) (report : Report) (told : Told)
    → DoesLive old report told new → DoesAsKept old report (told_record told ∷ []) new
does_told old new (reports.Send by inc to body) told does = (told, does, refl)
does_told old new (reports.Receive by inc message) told does = (told, does, refl)
does_told old new (reports.Check by inc state round) told does = (told, does, refl)
does_told old new (reports.Mark by inc sender round) told does = (told, does, refl)
does_told old new (reports.Damage by check) told does = (told, does, refl)
does_told old new (reports.Bar by check) told does = (told, does, refl)
does_told old new (reports.Plan failed) told does = absurd does
does_told old new reports.Live told does = absurd does
does_told old new (reports.Recover failed) told does = absurd does
does_told old new reports.Forget told does = absurd does
does_told old new reports.History told does = absurd does
does_told old new (reports.Bundle failed) told does = absurd does
does_told old new (reports.Refused code) told does = absurd does

-- what a call did with a report is told so
pub taken_told : (old new : LiveCollectionView) (report : Report) (result : Result Told
    CollectError) → TakesLiveReport old report result new → TellsLive old report result new
taken_told old new report (Ok told) takes = (takes.0, does_told old new report told takes.1)
taken_told old new report (Err error) takes = (takes.0, λ differs. inl (takes.1 differs))

-- what is told of everybody is told of `live`
live_answers : (old new : LiveCollectionView) (failed : List Bool) (answer : ReportAnswer)
    → IsEverybody (length old.kept.history) failed
    → AnswersLive old (reports.Plan failed) answer new → AnswersLive old reports.Live answer new
live_answers old new failed (Refused code) all (why, same) = (
  elim why [
    | inl none ↦ absurd (cc none)
    | inr later ↦ elim later [
      | inl (spent, is) ↦ inr
          (inl ((failed, all, spent), is))
      | inr (error, spent, is) ↦ absurd spent
    ]
  ],
  same,
)
live_answers old new failed (Given records) all (none, plans) = (refl, (failed, all, plans))

pub live_does : (old : LiveCollectionView) (failed : List Bool)
    → IsEverybody (length old.kept.history) failed → (taken now : Option (List ℕ))
    (faults after : ℕ) (held later : List ℕ) (result : Result Outcome Stop)
    → DoesReport old (reports.Plan failed) result old taken now faults after held later
    → DoesReport old reports.Live result old taken now faults after held later
live_does old failed all taken now faults after held later (Ok outcome) (h, same) = (
  record {
    answer = h.answer;
    answers = live_answers old old failed h.answer all h.answers;
    outcome_is = h.outcome_is;
    put = h.put;
  },
  same,
)
live_does old failed all taken now faults after held later
    (Err (stops.Fault read_errors.OutOfMemory)) h =
    h
live_does old failed all taken now faults after held later
    (Err (stops.Fault (read_errors.Fault fault))) h =
    absurd h
live_does old failed all taken now faults after held later (Err stops.Write) (h, more) = (
  record {
    answer = h.answer;
    new = h.new;
    answers = live_answers old h.new failed h.answer all
        h.answers;
    put = h.put;
  },
  more,
)

-- the answer to the record of a report
module _ (old new : LiveCollectionView) (r : Record) (report : Report)
    (spelt : report_in (length old.kept.history) r ≡ Ok report)
    (taken now : Option (List ℕ)) (faults after : ℕ) (held later : List ℕ) where
  pub record_done : (result : Result Outcome Stop)
      → DoesReport old report result new taken now faults after held later
      → IfOk result (λ outcome. AnswersOne collect_rules (Some old) (Ok r)
      (Some new) taken now held later outcome)
  record_done (Ok outcome) h = record {
    answer = Replied h.0.answer;
    heard =
        (report, spelt, new, h.0.answers, refl);
    outcome_is = h.0.outcome_is;
    put = h.0.put;
  }
  record_done (Err stop) h = tt

  pub record_stopped : (result : Result Outcome Stop)
      → DoesReport old report result new taken now faults after held later
      → IfErr result (λ stop. StopsOne collect_rules Faulted stop (Some old) (Ok r)
      (Some new) taken now held later)
  record_stopped (Ok outcome) h = tt
  record_stopped (Err (stops.Fault read_errors.OutOfMemory)) h = (
    out_of_memory_any_report
        (Some old) (Ok r),
    ap (λ (v : LiveCollectionView). Some v) h.0,
    h.1,
    h.2,
  )
  record_stopped (Err (stops.Fault (read_errors.Fault fault))) h = absurd h
  record_stopped (Err stops.Write) h =
      one_front collect_rules (Some old) (Some h.0.new) held (Ok r) (Replied h.0.answer) taken now
      (report, spelt, h.0.new, h.0.answers, refl)
      (subst (λ (t : List ℕ). PutsFront taken now t)
      (append_assoc held (records_text (report_answer_records h.0.answer)) (10 ∷ []))
      (front_of_front taken now (held ++ records_text (report_answer_records h.0.answer))
      (10 ∷ []) h.0.put))

  pub record_sound : (result : Result Outcome Stop) → DoesReport old report result new taken now
      faults after held later → OnOk result (after ≡ faults)
  record_sound (Ok outcome) h = h.1
  record_sound (Err stop) h = tt

  pub record_blamed : (result : Result Outcome Stop) → DoesReport old report result new taken now
      faults after held later → IfErr result (λ stop. BlamesSink stop faults after)
  record_blamed (Ok outcome) h = tt
  record_blamed (Err (stops.Fault read_errors.OutOfMemory)) h = h.3
  record_blamed (Err (stops.Fault (read_errors.Fault fault))) h = absurd h
  record_blamed (Err stops.Write) h = h.1
