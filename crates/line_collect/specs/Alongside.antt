-- The collection that keeps everything, beside the one that lets go.
use Rattle.std.specs.Prelude.{◌≡◌, ℕ, nat_lt, Bool, List, [], ◌∷◌, length, Option, None}
use Rattle.line_catalogue.specs.Agreement.{Agrees}
use Rattle.line_collect.specs.Answers.{DoesAsReported, told_record}
use Rattle.line_collect.specs.Collections.{CollectionView, IsPlanToGoBack, gone_back}
use Rattle.line_collect.specs.Collections.{nothing_collected}
use Rattle.line_collect.specs.declared.refusals.CollectError.TheVariants as errors
use Rattle.line_collect.specs.declared.reports.Report.{Report}
use Rattle.line_collect.specs.declared.reports.Report.TheVariants as reports
use Rattle.line_collect.specs.declared.tellings.Told.{Told}
use Rattle.line_collect.specs.Lives.{DoesLive, ForgetsReports, LiveCollectionView, RecoversLive}
use Rattle.line_collect.specs.Lives.{live_refusal}
use Rattle.line_collect.specs.Ranges.{IsReportInRange}
use Rattle.line_collect.specs.Refusals.{first_reason, is_misnamed, is_stale, refusal_of_report}
use Rattle.line_cuts.specs.Cuts.{FloorSurvives, IsFloor, cut_history, cut_marks}
use Rattle.line_cuts.specs.Marks.{AreSameMarks}
use Rattle.line_names.specs.declared.limits.TheConstants.{MOST_BODY}
use Rattle.line_plan.specs.declared.plans.Plan.{Plan}
use Rattle.line_tape.specs.declared.limits.TheConstants.{MOST_STATE}

-- what is kept is what is left of the collection that keeps everything, cut at the floor, which is
-- one of that history and survives there
pub record IsLeftOfAll (live : LiveCollectionView) (whole : CollectionView) : Type 0 where
  pub agrees : Agrees whole.history
  pub marked : length whole.marks.damaged ≡ length whole.history
  pub barred : length whole.marks.bars ≡ length whole.history
  pub sends : length live.floor.sends ≡ length whole.history
  pub round : live.floor.round ≡ 0
  pub is : IsFloor whole.history live.floor
  pub stays : FloorSurvives whole.history whole.marks live.floor
  pub history : live.kept.history ≡ cut_history live.floor whole.history
  pub marks : AreSameMarks live.kept.marks (cut_marks live.floor whole.marks)

-- the first cause to refuse a report, if no tape were ever full
abbrev pub refusal_with_room : CollectionView → Report → Option ℕ
refusal_with_room old (reports.Send by inc to body) =
    first_reason (
    (is_stale old.history by inc, errors.StaleReport)
    ∷ (nat_lt MOST_BODY (length body), errors.BodyTooLong)
    ∷ [])
refusal_with_room old (reports.Receive by inc message) =
    first_reason (
    (is_stale old.history by inc, errors.StaleReport)
    ∷ (is_misnamed old.history message, errors.NamesDisagree)
    ∷ [])
refusal_with_room old (reports.Check by inc state round) =
    first_reason (
    (is_stale old.history by inc, errors.StaleReport)
    ∷ (nat_lt MOST_STATE (length state), errors.StateTooLong)
    ∷ [])
refusal_with_room old (reports.Mark by inc sender round) =
    first_reason ((is_stale old.history by inc, errors.StaleReport) ∷ [])
refusal_with_room old report = refusal_of_report old report

-- the report is taken, told so, if no tape were ever full, and leaves new
pub record TakesReportWithRoom (old : CollectionView) (report : Report) (told : Told)
    (new : CollectionView) : Type 0 where
  pub unrefused : refusal_with_room old report ≡ None
  pub does : DoesAsReported old report (told_record told ∷ []) new

-- something that one who lets go did: a report was taken, told so; all went on from the line of a
-- plan where some failed; or what stands before the line where all fail was let go
pub data Collected : Type 0 where
  Reported : Report → Told → Collected
  Recovered : List Bool → Plan → Collected
  Forgot : Collected

-- it may do this, and go on to new
abbrev pub CollectsOn : LiveCollectionView → Collected → LiveCollectionView → Type 0
CollectsOn old (Reported report told) new =
    IsReportInRange (length old.kept.history) report
    × ((live_refusal old report ≡ None) × DoesLive old report told new)
CollectsOn old (Recovered failed plan) new = RecoversLive old failed plan new
CollectsOn old Forgot new = ForgetsReports old new

-- it may do these things, one after another
abbrev pub CollectsAll : LiveCollectionView → List Collected → LiveCollectionView → Type 0
CollectsAll old [] new = new ≡ old
CollectsAll old (one ∷ others) new =
    (mid : LiveCollectionView) × CollectsOn old one mid × CollectsAll mid others new

-- the collection that keeps everything may do the same, told the same, and goes on to new; it lets
-- nothing go
abbrev pub WholeOn : CollectionView → Collected → CollectionView → Type 0
WholeOn old (Reported report told) new = TakesReportWithRoom old report told new
WholeOn old (Recovered failed plan) new =
    IsPlanToGoBack old failed plan × (new ≡ gone_back old plan.line)
WholeOn old Forgot new = new ≡ old

-- and so of these things, one after another
abbrev pub WholeAll : CollectionView → List Collected → CollectionView → Type 0
WholeAll old [] new = new ≡ old
WholeAll old (one ∷ others) new =
    (mid : CollectionView) × WholeOn old one mid × WholeAll mid others new

-- the collection that keeps everything may do all of it from the beginning, and what is kept is
-- what is left of it
pub record IsCollectedByWhole (n : ℕ) (done : List Collected)
    (live : LiveCollectionView) : Type 0 where
  pub whole : CollectionView
  pub does : WholeAll (nothing_collected n) done whole
  pub left : IsLeftOfAll live whole
