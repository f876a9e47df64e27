-- What contracts see of a collector, and what holds of it through a generation.
use Rattle.std.specs.Prelude.{◌≡◌, ◌≢◌, ◌+◌, ℕ, List, ◌∷◌, [], ◌++◌, length, Option, Some, None}
use mathlib.Core.List.{IsPrefix}
use Rattle.line_tape.specs.declared.events.Event.{Event}
use Rattle.line_tape.specs.declared.limits.TheConstants.{MOST_EVENTS}
use Rattle.line_tape.specs.Event.{HasLongState, NamesBelow}
use Rattle.line_tape.specs.History.{Process, tape_at, incarnation_at, with_event}
use Rattle.line_tape.specs.Views.{MarksView}
use Rattle.line_catalogue.specs.Agreement.{AgreesNext}
use Rattle.line_catalogue.specs.declared.refusals.AddError.{AddError}
use Rattle.line_catalogue.specs.declared.refusals.AddError.TheVariants.{OutOfMemory, NoSuchProcess}
use Rattle.line_catalogue.specs.declared.refusals.AddError.TheVariants.{StateTooLong, TapeFull}
use Rattle.line_catalogue.specs.declared.refusals.AddError.TheVariants.{NamesDisagree}
use Rattle.line_cuts.specs.Cuts.{Floor}
use Rattle.line_cuts.specs.Floors.{LacksNumbers}
use Rattle.line_posts.specs.Ends.{End, items_at, ring_at, row_at, with_item}
use Rattle.line_posts.specs.Forgotten.{floor_after, history_kept, kept_marks, IsLiveFloor}
use Rattle.line_posts.specs.Forgotten.{ReceivesGone}

-- a collector: the history that its generation opened with, what it has collected, the marks of
-- damage that it was given, its ends of the report lines, what it has seen on each of these and not
-- taken, the capacity of a ring, and the floor that all else was let go before, where some was
pub record CollectorView : Type 0 where
  pub opening : List Process
  pub processes : List Process
  pub marks : MarksView
  pub lines : List (End Event)
  pub seen : List (List Event)
  pub capacity : ℕ
  pub floor : Option Floor

-- the collector with these parts, which let nothing go
abbrev pub collector_of : List Process → List Process → MarksView → List (End Event)
    → List (List Event) → ℕ → CollectorView
collector_of opening processes marks lines seen capacity = record {
  opening = opening;
  processes = processes;
  marks = marks;
  lines = lines;
  seen = seen;
  capacity = capacity;
  floor = None;
}

-- of each worker it has the opening tape, and then what it popped from the worker's report line
pub record IsCollector (collector : CollectorView) : Type 0 where
  pub count : length collector.processes ≡ length collector.opening
  pub line_count : length collector.lines ≡ length collector.opening
  pub tapes : (p : ℕ) → tape_at collector.processes p
      ≡ tape_at collector.opening p ++ items_at collector.lines p
  pub incarnations : (p : ℕ)
      → incarnation_at collector.processes p ≡ incarnation_at collector.opening p

-- the collector is as it was, but that it may have seen more of the lines
abbrev pub HasOnlyLooked : CollectorView → CollectorView → Type 0
HasOnlyLooked old new = (new ≡ record old { seen = new.seen })
    × ((p : ℕ) → IsPrefix (row_at old.seen p) (row_at new.seen p))

-- the collector has taken one report of process p
abbrev pub HasCollected : CollectorView → ℕ → CollectorView → Type 0
HasCollected old p new = (event : Event) × (new ≡ record old {
  processes = with_event old.processes p event;
  lines = with_item old.lines p event;
  seen = new.seen;
}) × IsPrefix (row_at old.seen p) (event ∷ row_at new.seen p)

-- the line of process p shows no report
abbrev pub ShowsNone : CollectorView → ℕ → Type 0
ShowsNone collector p = row_at collector.seen p ≡ []

-- the collector took nothing of process p, and its line shows what it showed
abbrev pub HasLeft : CollectorView → ℕ → CollectorView → Type 0
HasLeft old p new = (items_at new.lines p ≡ items_at old.lines p)
    × (row_at new.seen p ≡ row_at old.seen p)

-- how many items passed these ends, in all
abbrev pub passed_count : List (End Event) → ℕ
passed_count [] = 0
passed_count (e ∷ es) = length e.items + passed_count es

-- the collector has taken further reports: to each tape came what it popped of that line, first
-- what it had seen there, and nothing else changed
pub record HasCollectedMore (old new : CollectorView) : Type 0 where
  pub opening : new.opening ≡ old.opening
  pub marks : new.marks ≡ old.marks
  pub capacity : new.capacity ≡ old.capacity
  pub floor : new.floor ≡ old.floor
  pub count : length new.processes ≡ length old.processes
  pub incarnations : (p : ℕ)
      → incarnation_at new.processes p ≡ incarnation_at old.processes p
  pub rings : (p : ℕ) → ring_at new.lines p ≡ ring_at old.lines p
  pub tapes : (p : ℕ) → (more : List Event)
      × (tape_at new.processes p ≡ tape_at old.processes p ++ more)
      × (items_at new.lines p ≡ items_at old.lines p ++ more)
      × IsPrefix (row_at old.seen p) (more ++ row_at new.seen p)

-- with the event at process p the history agrees too, and it receives nothing that was let go
pub record IsWellNamed (floor : Option Floor) (history : List Process) (p : ℕ) (event : Event)
    : Type 0 where
  pub agrees : AgreesNext history p event
  pub left : ReceivesGone floor event → ⊥

-- why an event is not added to the tape of process p: this cause holds, and none before it; out of
-- memory comes last. The tape that is kept may be full
abbrev pub IsNotAdded : Option Floor → List Process → ℕ → Event → AddError → Type 0
IsNotAdded floor history p event NoSuchProcess = NamesBelow (length history) event → ⊥
IsNotAdded floor history p event StateTooLong = NamesBelow (length history) event
    × HasLongState event
IsNotAdded floor history p event TapeFull = NamesBelow (length history) event
    × (HasLongState event → ⊥) × (length (tape_at (history_kept floor history) p) ≡ MOST_EVENTS)
IsNotAdded floor history p event NamesDisagree = NamesBelow (length history) event
    × (HasLongState event → ⊥) × (length (tape_at (history_kept floor history) p) ≢ MOST_EVENTS)
    × (IsWellNamed floor history p event → ⊥)
IsNotAdded floor history p event OutOfMemory = NamesBelow (length history) event
    × (HasLongState event → ⊥) × (length (tape_at (history_kept floor history) p) ≢ MOST_EVENTS)
    × IsWellNamed floor history p event

-- the line of process p shows a report that is not taken, for this cause
abbrev pub IsNotTaken : CollectorView → ℕ → AddError → Type 0
IsNotTaken collector p why = (event : Event) × (rest : List Event)
    × (row_at collector.seen p ≡ event ∷ rest)
    × IsNotAdded collector.floor collector.processes p event why

-- the collector let go what stands before such a floor of what it kept; all else is as it was
pub record HasForgotten (old new : CollectorView) : Type 0 where
  pub later : Floor
  pub at : IsLiveFloor (history_kept old.floor old.processes) (kept_marks old.floor old.marks) later
  pub new_is : new ≡ record old { floor = Some (floor_after old.floor later) }

-- nothing is let go, since more of a process would be in all than there are numbers for
pub record IsShortOfNumbers (old : CollectorView) : Type 0 where
  pub later : Floor
  pub at : IsLiveFloor (history_kept old.floor old.processes) (kept_marks old.floor old.marks) later
  pub spent : LacksNumbers (floor_after old.floor later)
