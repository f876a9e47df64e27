-- What refuses an event alone, and what is written of the answer to a report. No contract that a
-- caller reads needs this.
use Rattle.std.specs.Prelude.{◌≡◌, ◌≢◌, ℕ, nat_lt, List, [], ◌∷◌, ◌++◌, length, Option, Result}
use Rattle.std.specs.Prelude.{Ok, Err}
use Rattle.line_text.specs.declared.outcomes.Outcome.{Outcome}
use Rattle.line_text.specs.declared.stops.Stop.{Stop}
use Rattle.line_text.specs.declared.stops.Stop.TheVariants as stops
use Rattle.line_devices.specs.declared.devices.DeviceFault.{DeviceFault}
use Rattle.line_devices.specs.Devices.{PutsButEnd, PutsFront, one_more}
use Rattle.line_fields.specs.declared.faults.ReadError.TheVariants as read_errors
use Rattle.line_fields.specs.Texts.{records_text}
use Rattle.line_collect.specs.declared.reports.Report.{Report}
use Rattle.line_tape.specs.declared.events.Event.{Event}
use Rattle.line_tape.specs.declared.events.Event.TheVariants as events
use Rattle.line_tape.specs.declared.limits.TheConstants.{MOST_STATE}
use Rattle.line_tape.specs.History.{Process}
use Rattle.line_collect.specs.declared.refusals.CollectError.{CollectError}
use Rattle.line_collect.specs.declared.refusals.CollectError.TheVariants as errors
use Rattle.line_collect.specs.declared.tellings.Told.{Told}
use Rattle.line_collect.specs.Answers.{Given, ReportAnswer, report_answer_records, told_record}
use Rattle.line_collect.specs.Collecting.{report_outcome}
use Rattle.line_collect.specs.LiveAnswers.{AnswersLive, IsLiveRefusedBy}
use Rattle.line_collect.specs.Lives.{LiveCollectionView}
use Rattle.line_collect.specs.Refusals.{first_reason, is_misnamed, is_tape_full}
use Rattle.line_collect.specs.Refusals.{report_error_code}

-- the first cause to refuse an event at the end of the tape of process p
abbrev pub refusal_of_event : List Process → ℕ → Event → Option ℕ
refusal_of_event history p (events.Send to inc body) =
    first_reason ((is_tape_full history p, errors.TapeFull) ∷ [])
refusal_of_event history p (events.Recv message) =
    first_reason (
    (is_tape_full history p, errors.TapeFull)
    ∷ (is_misnamed history message, errors.NamesDisagree)
    ∷ [])
refusal_of_event history p (events.Check state round) =
    first_reason (
    (nat_lt MOST_STATE (length state), errors.StateTooLong)
    ∷ (is_tape_full history p, errors.TapeFull)
    ∷ [])
refusal_of_event history p (events.Mark sender round) =
    first_reason ((is_tape_full history p, errors.TapeFull) ∷ [])

-- a report was answered: what was held and the text of the answer are put but for their end, which
-- is held
pub record IsAnswered (old : LiveCollectionView) (report : Report) (new : LiveCollectionView)
    (taken now : Option (List ℕ)) (held later : List ℕ) (outcome : Outcome) : Type 0 where
  pub answer : ReportAnswer
  pub answers : AnswersLive old report answer new
  pub outcome_is : outcome ≡ report_outcome answer
  pub put : PutsButEnd taken now later (held ++ records_text (report_answer_records answer))

-- of what was held and the text of an answer to a report a front was put
pub record IsAnsweredInPart (old : LiveCollectionView) (report : Report)
    (taken now : Option (List ℕ)) (held : List ℕ) : Type 0 where
  pub answer : ReportAnswer
  pub new : LiveCollectionView
  pub answers : AnswersLive old report answer new
  pub put : PutsFront taken now (held ++ records_text (report_answer_records answer))

-- a report was taken or refused, or memory was out, as a call told it; where it was not taken
-- nothing changed
abbrev pub TellsLive : LiveCollectionView → Report → Result Told CollectError → LiveCollectionView
    → Type 0
TellsLive old report (Ok told) new = AnswersLive old report (Given (told_record told ∷ [])) new
TellsLive old report (Err error) new =
    (new ≡ old)
    × (error ≢ errors.OutOfMemory → IsLiveRefusedBy old report (report_error_code error))

-- what a call that answers a report does: it is answered; or memory is out, and nothing changed; or
-- the sink failed
abbrev pub DoesReport : LiveCollectionView → Report → Result Outcome Stop → LiveCollectionView
    → Option (List ℕ) → Option (List ℕ) → ℕ → ℕ → List ℕ → List ℕ → Type 0
DoesReport old report (Ok outcome) new taken now faults after held later =
    IsAnswered old report new taken now held later outcome × (after ≡ faults)
DoesReport old report (Err (stops.Fault read_errors.OutOfMemory)) new taken now faults after held
    later = (new ≡ old) × (now ≡ taken) × (later ≡ held) × (after ≡ faults)
DoesReport old report (Err (stops.Fault (read_errors.Fault fault))) new taken now faults after held
    later = ⊥
DoesReport old report (Err stops.Write) new taken now faults after held later =
    IsAnsweredInPart old report taken now held × (after ≡ one_more faults)

-- the outcome where all was written, or that the sink failed
abbrev pub outcome_if_written : {A : Type 0} → Result A DeviceFault → Outcome → Result Outcome Stop
outcome_if_written (Ok done) outcome = Ok outcome
outcome_if_written (Err failed) outcome = Err stops.Write
