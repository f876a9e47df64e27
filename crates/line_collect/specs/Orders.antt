-- Reports that are taken one after another, and what they tell of each process.
use Rattle.std.specs.Prelude.{◌≡◌, ℕ, ◌==◌, if◌then◌else◌, List, [], ◌∷◌, Option, Some, None}
use Rattle.std.specs.List.{filter_map}
use Rattle.line_fields.specs.Records.{Record}
use Rattle.line_collect.specs.declared.reports.Report.{Report}
use Rattle.line_collect.specs.declared.reports.Report.TheVariants as reports
use Rattle.line_tape.specs.declared.events.Event.{Event}
use Rattle.line_tape.specs.declared.events.Event.TheVariants as events
use Rattle.line_collect.specs.Answers.{AnswersReport, Given, Refused, ReportAnswer}
use Rattle.line_collect.specs.Collections.{CollectionView}

-- the event that a report tells of process p
abbrev pub event_by : ℕ → Report → Option Event
event_by p (reports.Send by inc to body) = if by == p then Some (events.Send to inc body) else None
event_by p (reports.Receive by inc message) = if by == p then Some (events.Recv message) else None
event_by p (reports.Check by inc state round) =
    if by == p then Some (events.Check state round) else None
event_by p (reports.Mark by inc sender round) =
    if by == p then Some (events.Mark sender round) else None
event_by p report = None

-- the events that reports tell of process p, in their order
abbrev pub events_by : ℕ → List Report → List Event
events_by p these = filter_map (event_by p) these

-- the report is no recovery
abbrev pub IsNoRecovery : Report → Type 0
IsNoRecovery (reports.Recover failed) = ⊥
IsNoRecovery report = Unit {0}

-- reports are taken one after another: none is refused, and none is a recovery
abbrev pub TakesAll : CollectionView → List Report → CollectionView → Type 0
TakesAll old [] new = new ≡ old
TakesAll old (report ∷ others) new = IsNoRecovery report
    × ((records : List Record) × (mid : CollectionView)
    × AnswersReport old report (Given records) mid × TakesAll mid others new)

-- the answer does no recovery
abbrev pub DoesNoRecovery : Report → ReportAnswer → Type 0
DoesNoRecovery report (Refused code) = Unit {0}
DoesNoRecovery report (Given records) = IsNoRecovery report

-- reports are answered one after another, each taken or refused, and no recovery is done
abbrev pub AnswersUntilRecovery : CollectionView → List Report → CollectionView → Type 0
AnswersUntilRecovery old [] new = new ≡ old
AnswersUntilRecovery old (report ∷ others) new =
    (answer : ReportAnswer) × (mid : CollectionView) × AnswersReport old report answer mid
    × DoesNoRecovery report answer × AnswersUntilRecovery mid others new
