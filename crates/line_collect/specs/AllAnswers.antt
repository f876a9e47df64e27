-- What one who lets go answers to reports, beside the collection that keeps everything.
use Rattle.std.specs.Prelude.{◌≡◌, ℕ, List, [], ◌∷◌, length, None}
use Rattle.line_fields.specs.Records.{Record}
use Rattle.line_collect.specs.Alongside.{IsLeftOfAll, refusal_with_room}
use Rattle.line_collect.specs.Answers.{DoesAsReported, Given, Refused, ReportAnswer}
use Rattle.line_collect.specs.Collections.{CollectionView, nothing_collected}
use Rattle.line_collect.specs.declared.reports.Report.{Report}
use Rattle.line_collect.specs.declared.reports.Report.TheVariants as reports
use Rattle.line_collect.specs.LiveAnswers.{AnswersLive}
use Rattle.line_collect.specs.Lives.{LiveCollectionView}
use Rattle.line_collect.specs.Ranges.{IsReportInRange}

-- reports are answered so by one who lets go, one after another
abbrev pub AnswersLiveAll : LiveCollectionView → List (Report × ReportAnswer) → LiveCollectionView
    → Type 0
AnswersLiveAll old [] new = new ≡ old
AnswersLiveAll old (one ∷ others) new =
    IsReportInRange (length old.kept.history) one.0
    × ((mid : LiveCollectionView) × AnswersLive old one.0 one.1 mid × AnswersLiveAll mid others new)

-- the collection that keeps everything may answer a report by these records, if no tape were ever
-- full, and goes on to new; it lets nothing go, and texts of what is left are none of its own
abbrev pub AnswersWithRoom : CollectionView → Report → List Record → CollectionView → Type 0
AnswersWithRoom old reports.Forget records new = new ≡ old
AnswersWithRoom old reports.History records new = new ≡ old
AnswersWithRoom old (reports.Bundle failed) records new = new ≡ old
AnswersWithRoom old report records new =
    (refusal_with_room old report ≡ None) × DoesAsReported old report records new

-- it may give the same answer; what was refused is left out
abbrev pub AnswersAsAll : CollectionView → Report → ReportAnswer → CollectionView → Type 0
AnswersAsAll old report (Refused code) new = new ≡ old
AnswersAsAll old report (Given records) new = AnswersWithRoom old report records new

-- and so to these reports, one after another
abbrev pub AnswersAllOf : CollectionView → List (Report × ReportAnswer) → CollectionView → Type 0
AnswersAllOf old [] new = new ≡ old
AnswersAllOf old (one ∷ others) new =
    (mid : CollectionView) × AnswersAsAll old one.0 one.1 mid × AnswersAllOf mid others new

-- the collection that keeps everything may give all these answers from the beginning, and what is
-- kept is what is left of it
pub record IsAnsweredByAll (n : ℕ) (answered : List (Report × ReportAnswer))
    (live : LiveCollectionView) : Type 0 where
  pub whole : CollectionView
  pub answers : AnswersAllOf (nothing_collected n) answered whole
  pub left : IsLeftOfAll live whole
