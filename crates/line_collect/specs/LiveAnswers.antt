-- What a report is answered by one who lets go, and what is kept then.
use Rattle.std.specs.Prelude.{◌≡◌, ◌≢◌, ◌⊎◌, ℕ, Bool, List, [], ◌∷◌, length, map, codes}
use Rattle.std.specs.Prelude.{Option, None, Some, Result, Ok, Err}
use Rattle.std.specs.List.{range_with_len}
use Rattle.line_text.specs.Answers.{IsEverybody, claimed_records, floors_above, floors_before}
use Rattle.line_text.specs.Answers.{forget_code, forgot_record, shown_records}
use Rattle.line_text.specs.Replies.{process_record}
use Rattle.line_claims.specs.Records.{floors_records, in_order, version_of}
use Rattle.line_cuts.specs.Cuts.{whole_choice}
use Rattle.line_fields.specs.Records.{Record}
use Rattle.line_live.specs.declared.refusals.ForgetError.{ForgetError}
use Rattle.line_live.specs.CutMachines.{whole_plan}
use Rattle.line_moves.specs.Restarts.{restored_state}
use Rattle.line_names.specs.declared.choices.Choice.{Choice}
use Rattle.line_names.specs.Lines.{choice_at}
use Rattle.line_plan.specs.declared.plans.Plan.{Plan}
use Rattle.line_tape.specs.History.{incarnation_at, tape_at}
use Rattle.line_tape.specs.Restart.{restarted_incarnation}
use Rattle.line_collect.specs.declared.refusals.CollectError.{CollectError}
use Rattle.line_collect.specs.declared.refusals.CollectError.TheVariants as errors
use Rattle.line_collect.specs.declared.reports.Report.{Report}
use Rattle.line_collect.specs.declared.reports.Report.TheVariants as reports
use Rattle.line_collect.specs.declared.tellings.Told.{Told}
use Rattle.line_collect.specs.Answers.{Given, Refused, ReportAnswer, claim_of_plan}
use Rattle.line_collect.specs.Answers.{plan_records_with, told_record}
use Rattle.line_collect.specs.Collections.{IsPlanOf, IsPlanToGoBack, gone_back}
use Rattle.line_collect.specs.Lives.{DoesLive, ForgetsReports, IsForgetSpent, LiveCollectionView}
use Rattle.line_collect.specs.Lives.{keeping, live_refusal}
use Rattle.line_collect.specs.Refusals.{NeedsFurther, report_error_code}

-- line,P,CHOICE,INC,HEX: where process p would go on by a line of what is kept: its choice as of
-- the whole, and the state that is stored there
abbrev pub live_going_on_record : LiveCollectionView → List Choice → ℕ → Record
live_going_on_record old line p =
    process_record p (whole_choice old.floor p (choice_at line p))
    (restarted_incarnation (choice_at line p) (incarnation_at old.kept.history p))
    (restored_state (tape_at old.kept.history p) (choice_at line p))

-- the line records of all processes
abbrev pub live_going_on_records : LiveCollectionView → List Choice → List Record
live_going_on_records old line =
    map (live_going_on_record old line) (range_with_len 0 (length old.kept.history))

-- the records of a plan of what is kept, brought back, the first of which begins with this word
abbrev pub live_plan_records : List ℕ → LiveCollectionView → Plan → List Record
live_plan_records word old kept =
    plan_records_with word (live_going_on_records old kept.line) (whole_plan old.floor kept)

-- a plan where these failed may be told so, and changes nothing
abbrev pub PlansLive : LiveCollectionView → List Bool → List Record → LiveCollectionView → Type 0
PlansLive old failed records new =
    (plan : Plan) × IsPlanToGoBack old.kept failed plan
    × (records ≡ live_plan_records (codes "planned") old plan) × (new ≡ old)

-- the records that tell what was let go of each process in all
abbrev pub forgot_records : LiveCollectionView → List Record
forgot_records new =
    forgot_record None ∷ floors_records 0 (floors_before (length new.kept.history) new.floor)

-- the records of what is kept: of version 4 where a check or a send was let go
abbrev pub live_history_records : LiveCollectionView → List Record
live_history_records old =
    shown_records (floors_above (length old.kept.history) old.floor) old.kept.history

-- and with the claim of a plan of what is kept
abbrev pub live_bundle_records : LiveCollectionView → List Bool → Plan → List Record
live_bundle_records old failed plan =
    claimed_records (version_of (in_order old.kept.history old.kept.marks))
    (floors_above (length old.kept.history) old.floor) old.kept.history
    (claim_of_plan old.kept failed plan)

-- a report that is not refused may be answered by these records, and leaves new
abbrev pub DoesAsKept : LiveCollectionView → Report → List Record → LiveCollectionView → Type 0
DoesAsKept old (reports.Plan failed) records new = PlansLive old failed records new
DoesAsKept old reports.Live records new =
    (failed : List Bool) × IsEverybody (length old.kept.history) failed
    × PlansLive old failed records new
DoesAsKept old (reports.Recover failed) records new =
    (plan : Plan) × IsPlanToGoBack old.kept failed plan
    × (records ≡ live_plan_records (codes "recovered") old plan)
    × (new ≡ keeping old (gone_back old.kept plan.line))
DoesAsKept old reports.Forget records new =
    ForgetsReports old new × (records ≡ forgot_records new)
DoesAsKept old reports.History records new = (records ≡ live_history_records old) × (new ≡ old)
DoesAsKept old (reports.Bundle failed) records new =
    (plan : Plan) × IsPlanOf old.kept failed plan
    × (records ≡ live_bundle_records old failed plan) × (new ≡ old)
DoesAsKept old report records new =
    (told : Told) × DoesLive old report told new × (records ≡ told_record told ∷ [])

-- there are no numbers for all that would be let go, which is told by this cause
abbrev pub NeedsNumbers : LiveCollectionView → Report → ForgetError → Type 0
NeedsNumbers old reports.Forget error = IsForgetSpent old error
NeedsNumbers old report error = ⊥

-- the report is refused by this number: the first cause that holds, or one that it takes a plan to
-- tell
abbrev pub IsLiveRefusedBy : LiveCollectionView → Report → ℕ → Type 0
IsLiveRefusedBy old report code =
    (live_refusal old report ≡ Some code)
    ⊎ (NeedsFurther old.kept report × (code ≡ report_error_code errors.NoMoreIncarnations))
    ⊎ ((error : ForgetError) × NeedsNumbers old report error × (code ≡ forget_code error))

-- a report may be answered so, and leaves new
abbrev pub AnswersLive : LiveCollectionView → Report → ReportAnswer → LiveCollectionView → Type 0
AnswersLive old report (Refused code) new = IsLiveRefusedBy old report code × (new ≡ old)
AnswersLive old report (Given records) new =
    (live_refusal old report ≡ None) × DoesAsKept old report records new
