-- What refuses a report: the first cause that holds, in the order of docs/REPORTS.md.
use Rattle.std.specs.Prelude.{◌≡◌, ◌⊎◌, ℕ, Bool, not, ◌==◌, nat_lt, if◌then◌else◌, List, []}
use Rattle.std.specs.Prelude.{◌∷◌, length, slice_index_or, Option, Some, None}
use Rattle.line_text.specs.Answers.{IsEverybody}
use Rattle.line_names.specs.declared.limits.TheConstants.{MOST_BODY}
use Rattle.line_names.specs.declared.messages.MsgName.{MsgName}
use Rattle.line_collect.specs.declared.reports.Report.{Report}
use Rattle.line_collect.specs.declared.reports.Report.TheVariants as reports
use Rattle.line_tape.specs.declared.limits.TheConstants.{MOST_EVENTS, MOST_STATE}
use Rattle.line_tape.specs.Event.{checks, incarnations_sent}
use Rattle.line_tape.specs.History.{Process, incarnation_at, tape_at}
use Rattle.line_tape.specs.Survival.{is_barred, is_damaged}
use Rattle.line_collect.specs.declared.refusals.CollectError.{CollectError}
use Rattle.line_collect.specs.declared.refusals.CollectError.TheVariants as errors
use Rattle.line_collect.specs.Collections.{CollectionView, HasSpentProcess}

-- the number of a refusal, 0 for out of memory
abbrev pub report_error_code : CollectError → ℕ
report_error_code errors.OutOfMemory = 0
report_error_code errors.BodyTooLong = 2
report_error_code errors.TapeFull = 3
report_error_code errors.NoSuchCheck = 4
report_error_code errors.StateTooLong = 5
report_error_code errors.InitialDamage = 7
report_error_code errors.AlreadyDamaged = 8
report_error_code errors.NoMoreIncarnations = 24
report_error_code errors.NamesDisagree = 38
report_error_code errors.BarNotLower = 40
report_error_code errors.StaleReport = 47

-- the number of the first cause that holds
abbrev pub first_reason : List (Bool × CollectError) → Option ℕ
first_reason [] = None
first_reason (cause ∷ causes) =
    if cause.0 then Some (report_error_code cause.1) else first_reason causes

-- that is not the present incarnation of process p
abbrev pub is_stale : List Process → ℕ → ℕ → Bool
is_stale history p inc = not (inc == incarnation_at history p)

-- the tape of process p has as many events as a tape may have
abbrev pub is_tape_full : List Process → ℕ → Bool
is_tape_full history p = length (tape_at history p) == MOST_EVENTS

-- the incarnation under which process p sent the message of that number, or its present one where
-- that is still to come
abbrev pub incarnation_to_send : List Process → ℕ → ℕ → ℕ
incarnation_to_send history p number =
    slice_index_or (incarnations_sent (tape_at history p)) number (incarnation_at history p)

-- the message is none that its sender sent, nor one that it can send still
abbrev pub is_misnamed : List Process → MsgName → Bool
is_misnamed history m = not (m.inc == incarnation_to_send history m.from m.number)

-- process p has no such check
abbrev pub is_no_check : List Process → ℕ → ℕ → Bool
is_no_check history p check = nat_lt (checks (tape_at history p)) check

-- the first cause to refuse a report that can be told without a plan
abbrev pub refusal_of_report : CollectionView → Report → Option ℕ
refusal_of_report old (reports.Send by inc to body) =
    first_reason (
    (is_stale old.history by inc, errors.StaleReport)
    ∷ (nat_lt MOST_BODY (length body), errors.BodyTooLong)
    ∷ (is_tape_full old.history by, errors.TapeFull)
    ∷ [])
refusal_of_report old (reports.Receive by inc message) =
    first_reason (
    (is_stale old.history by inc, errors.StaleReport)
    ∷ (is_tape_full old.history by, errors.TapeFull)
    ∷ (is_misnamed old.history message, errors.NamesDisagree)
    ∷ [])
refusal_of_report old (reports.Check by inc state round) =
    first_reason (
    (is_stale old.history by inc, errors.StaleReport)
    ∷ (nat_lt MOST_STATE (length state), errors.StateTooLong)
    ∷ (is_tape_full old.history by, errors.TapeFull)
    ∷ [])
refusal_of_report old (reports.Mark by inc sender round) =
    first_reason (
    (is_stale old.history by inc, errors.StaleReport)
    ∷ (is_tape_full old.history by, errors.TapeFull)
    ∷ [])
refusal_of_report old (reports.Damage by check) =
    first_reason (
    (check == 0, errors.InitialDamage)
    ∷ (is_no_check old.history by check, errors.NoSuchCheck)
    ∷ (is_damaged old.marks by check, errors.AlreadyDamaged)
    ∷ [])
refusal_of_report old (reports.Bar by check) =
    first_reason (
    (is_no_check old.history by check, errors.NoSuchCheck)
    ∷ (is_barred old.marks by check, errors.BarNotLower)
    ∷ [])
refusal_of_report old (reports.Plan failed) = None
refusal_of_report old reports.Live = None
refusal_of_report old (reports.Recover failed) = None
refusal_of_report old reports.Forget = None
refusal_of_report old reports.History = None
refusal_of_report old (reports.Bundle failed) = None
refusal_of_report old (reports.Refused code) = Some code

-- a plan that takes a process back has to raise its incarnation
abbrev pub NeedsFurther : CollectionView → Report → Type 0
NeedsFurther old (reports.Plan failed) = HasSpentProcess old failed
NeedsFurther old reports.Live =
    (failed : List Bool) × IsEverybody (length old.history) failed × HasSpentProcess old failed
NeedsFurther old (reports.Recover failed) = HasSpentProcess old failed
NeedsFurther old report = ⊥

-- the report is refused by this number: the first cause that holds, or one that it takes a plan to
-- tell
abbrev pub IsRefusedBy : CollectionView → Report → ℕ → Type 0
IsRefusedBy old report code =
    (refusal_of_report old report ≡ Some code)
    ⊎ (NeedsFurther old report × (code ≡ report_error_code errors.NoMoreIncarnations))
