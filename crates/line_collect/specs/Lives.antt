-- Reports collected by one who lets go what is never needed again, and answers in the names and
-- numbers of the whole.
use Rattle.std.specs.Prelude.{◌≡◌, ◌≢◌, ℕ, ◌+◌, ◌-◌, nat_le, nat_lt, not, ◌||◌}
use Rattle.std.specs.Prelude.{Bool, true, List, [], ◌∷◌, length, Contains, Option, Some, None}
use Rattle.std.specs.Prelude.{Result, Ok, Err}
use Rattle.line_names.specs.declared.messages.MsgName.{MsgName}
use Rattle.line_tape.specs.declared.events.Event.TheVariants as events
use Rattle.line_tape.specs.History.{Process, tape_at}
use Rattle.line_tape.specs.Spent.{next_name}
use Rattle.line_tape.specs.Survival.{is_barred, is_damaged, IsLatest}
use Rattle.line_tape.specs.Views.{with_bar, with_mark}
use Rattle.line_names.specs.declared.choices.Choice.{Choice}
use Rattle.line_text.specs.Answers.{IsEverybody}
use Rattle.line_cuts.specs.Cuts.{Floor, FloorSurvives, IsFloor, cut_history, cut_marks, cut_name}
use Rattle.line_cuts.specs.Cuts.{floor_check, is_left, lost_checks, whole_floor}
use Rattle.line_cuts.specs.Cuts.{whole_name}
use Rattle.line_live.specs.CutMachines.{whole_plan}
use Rattle.line_cuts.specs.Floors.{floor_of_line}
use Rattle.line_cuts.specs.Floors.{first_floor, HasNumbers}
use Rattle.line_live.specs.Lives.{IsSpentAt}
use Rattle.line_cuts.specs.Marks.{AreSameMarks}
use Rattle.line_cuts.specs.Numbers.{IsNumbered}
use Rattle.line_live.specs.declared.refusals.ForgetError.{ForgetError}
use Rattle.line_moves.specs.Moves.{next_check}
use Rattle.line_plan.specs.declared.plans.Plan.{Plan}
use Rattle.line_collect.specs.declared.refusals.CollectError.{CollectError}
use Rattle.line_collect.specs.declared.refusals.CollectError.TheVariants as errors
use Rattle.line_collect.specs.declared.reports.Report.{Report}
use Rattle.line_collect.specs.declared.reports.Report.TheVariants as reports
use Rattle.line_collect.specs.declared.tellings.Told.{Told}
use Rattle.line_collect.specs.declared.tellings.Told.TheVariants as tolds
use Rattle.line_collect.specs.Collections.{CollectionView, IsPlanToGoBack}
use Rattle.line_collect.specs.Collections.{gone_back, nothing_collected, with_report}
use Rattle.line_collect.specs.Refusals.{first_reason, is_misnamed, is_no_check, is_stale}
use Rattle.line_collect.specs.Refusals.{is_tape_full, refusal_of_report, report_error_code}

-- what is kept, in names and numbers of its own, and the floor that all else was let go before, in
-- those of the whole
pub record LiveCollectionView : Type 0 where
  pub floor : Floor
  pub kept : CollectionView

-- nothing yet, of n processes
abbrev pub nothing_live : ℕ → LiveCollectionView
nothing_live n = record { floor = first_floor n; kept = nothing_collected n }

-- that is kept from then on, and nothing more is let go
abbrev pub keeping : LiveCollectionView → CollectionView → LiveCollectionView
keeping old kept = record old { kept = kept }

-- the index of a check of process p in what is kept
abbrev pub kept_check : Floor → ℕ → ℕ → ℕ
kept_check floor p check = check - lost_checks floor p

-- the message was let go, or its sender neither sent it nor can send it still
abbrev pub is_misnamed_or_gone : LiveCollectionView → MsgName → Bool
is_misnamed_or_gone old message =
    not (is_left old.floor message)
    || is_misnamed old.kept.history (cut_name old.floor message)

-- the first cause to refuse a receipt of a message that was let go
abbrev pub refusal_of_gone : List Process → ℕ → ℕ → Option ℕ
refusal_of_gone history by inc =
    first_reason (
    (is_stale history by inc, errors.StaleReport)
    ∷ (is_tape_full history by, errors.TapeFull)
    ∷ (true, errors.NamesDisagree)
    ∷ [])

-- the first cause to refuse a report: of a process that has a floor, each check up to it is as an
-- initial state, and none below it is there to be barred at
abbrev pub live_refusal : LiveCollectionView → Report → Option ℕ
live_refusal old (reports.Receive by inc message) =
    first_reason (
    (is_stale old.kept.history by inc, errors.StaleReport)
    ∷ (is_tape_full old.kept.history by, errors.TapeFull)
    ∷ (is_misnamed_or_gone old message, errors.NamesDisagree)
    ∷ [])
live_refusal old (reports.Damage by check) =
    first_reason (
    (nat_le check (floor_check old.floor by), errors.InitialDamage)
    ∷ (is_no_check old.kept.history by (kept_check old.floor by check), errors.NoSuchCheck)
    ∷ (is_damaged old.kept.marks by (kept_check old.floor by check), errors.AlreadyDamaged)
    ∷ [])
live_refusal old (reports.Bar by check) =
    first_reason (
    (nat_lt check (floor_check old.floor by), errors.NoSuchCheck)
    ∷ (is_no_check old.kept.history by (kept_check old.floor by check), errors.NoSuchCheck)
    ∷ (is_barred old.kept.marks by (kept_check old.floor by check), errors.BarNotLower)
    ∷ [])
live_refusal old report = refusal_of_report old.kept report

-- a report of what a process did is answered so, and leaves new
abbrev pub DoesLive : LiveCollectionView → Report → Told → LiveCollectionView → Type 0
DoesLive old (reports.Send by inc to body) told new =
    (told ≡ tolds.Sent (whole_name old.floor (next_name old.kept.history by)))
    × (new ≡ keeping old (with_report old.kept by (events.Send to inc body)))
DoesLive old (reports.Receive by inc message) told new =
    (told ≡ tolds.Took message)
    × (new ≡ keeping old (with_report old.kept by (events.Recv (cut_name old.floor message))))
DoesLive old (reports.Check by inc state round) told new =
    (told ≡ tolds.Checked by (next_check old.kept.history by + lost_checks old.floor by))
    × (new ≡ keeping old (with_report old.kept by (events.Check state round)))
DoesLive old (reports.Mark by inc sender round) told new =
    (told ≡ tolds.Marked round)
    × (new ≡ keeping old (with_report old.kept by (events.Mark sender round)))
DoesLive old (reports.Damage by check) told new =
    (told ≡ tolds.Damaged by check)
    × (new ≡ keeping old (record old.kept {
      marks = with_mark old.kept.marks by (kept_check old.floor by check);
    }))
DoesLive old (reports.Bar by check) told new =
    (told ≡ tolds.Barred by check)
    × (new ≡ keeping old (record old.kept {
      marks = with_bar old.kept.marks by (kept_check old.floor by check);
    }))
DoesLive old report told new = ⊥

-- a call took a report; or did not, since it is refused, or since memory is out and nothing refuses
-- it, and then nothing changed
abbrev pub TakesLiveReport : LiveCollectionView → Report → Result Told CollectError
    → LiveCollectionView → Type 0
TakesLiveReport old report (Ok told) new =
    (live_refusal old report ≡ None) × DoesLive old report told new
TakesLiveReport old report (Err error) new =
    (new ≡ old)
    × (error ≢ errors.OutOfMemory → live_refusal old report ≡ Some (report_error_code error))
    × (error ≡ errors.OutOfMemory → live_refusal old report ≡ None)

-- the plan is one of what is kept, brought back, by which each process that goes back has a further
-- incarnation
pub record IsLivePlan (old : LiveCollectionView) (failed : List Bool) (plan : Plan) : Type 0 where
  pub kept : Plan
  pub plan_is : IsPlanToGoBack old.kept failed kept
  pub brought_back : plan ≡ whole_plan old.floor kept

-- each process goes on from its choice of the line of such a plan
pub record RecoversLive (old : LiveCollectionView) (failed : List Bool) (plan : Plan)
    (new : LiveCollectionView) : Type 0 where
  pub kept : Plan
  pub plan_is : IsPlanToGoBack old.kept failed kept
  pub brought_back : plan ≡ whole_plan old.floor kept
  pub new_is : new ≡ keeping old (gone_back old.kept kept.line)

-- the floor is at the latest line where each process fails, and survives
pub record IsFloorOfLive (kept : CollectionView) (floor : Floor) : Type 0 where
  pub failed : List Bool
  pub all : IsEverybody (length kept.history) failed
  pub line : List Choice
  pub latest : IsLatest kept.history kept.marks failed line
  pub value : floor ≡ floor_of_line kept.history line 0
  pub is : IsFloor kept.history floor
  pub stays : FloorSurvives kept.history kept.marks floor

-- what stands before such a floor is let go, and there are numbers for all that was
pub record ForgetsReports (old new : LiveCollectionView) : Type 0 where
  pub later : Floor
  pub at : IsFloorOfLive old.kept later
  pub numbers : HasNumbers (whole_floor old.floor later)
  pub floor_is : new.floor ≡ whole_floor old.floor later
  pub history : new.kept.history ≡ cut_history later old.kept.history
  pub marks : AreSameMarks new.kept.marks (cut_marks later old.kept.marks)

-- nothing is let go, since the numbers of what would be in all are too great
abbrev pub IsForgetSpent : LiveCollectionView → ForgetError → Type 0
IsForgetSpent old e = IsSpentAt (IsFloorOfLive old.kept) old.floor e

-- the number of each message that was received is one in the whole too
abbrev pub AreReceiptsNumbered : Floor → List Process → Type 0
AreReceiptsNumbered floor history =
    (q : ℕ) (message : MsgName) → Contains (tape_at history q) (events.Recv message)
    → IsNumbered floor message
