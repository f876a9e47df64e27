-- What a collector keeps, beside the whole history. No contract that a caller reads needs this.
use Rattle.std.specs.Prelude.{◌≡◌, ◌≢◌, ◌<◌, ◌≤◌, ◌+◌, ◌⊎◌, ℕ, Bool, List, All, length, map}
use Rattle.std.specs.Prelude.{Option, Some, None, vec_len}
use Rattle.line_tape.specs.Event.{HasLongState, NamesBelow}
use Rattle.line_tape.specs.History.{Process, tape_at}
use Rattle.line_tape.specs.Chain.{IsChain}
use Rattle.line_tape.specs.Survival.{IsLatest}
use Rattle.line_tape.specs.Transit.{in_transit}
use Rattle.line_tape.specs.Views.{MarksView}
use Rattle.line_tape.specs.declared.events.Event.{Event}
use Rattle.line_tape.specs.declared.limits.TheConstants.{MOST_EVENTS}
use Rattle.line_catalogue.specs.Agreement.{Agrees, AgreesNext}
use Rattle.line_catalogue.specs.Damage.{AreOnChecks}
use Rattle.line_catalogue.specs.declared.refusals.AddError.{AddError}
use Rattle.line_catalogue.specs.declared.refusals.AddError.TheVariants.{OutOfMemory, NoSuchProcess}
use Rattle.line_catalogue.specs.declared.refusals.AddError.TheVariants.{StateTooLong, TapeFull}
use Rattle.line_catalogue.specs.declared.refusals.AddError.TheVariants.{NamesDisagree}
use Rattle.line_catalogue.specs.Views.{CatalogueView}
use Rattle.line_cuts.specs.Cuts.{Floor, FloorSurvives, IsFloor, cut_history, cut_marks}
use Rattle.line_cuts.specs.Cuts.{whole_entry, whole_line, whole_name}
use Rattle.line_cuts.specs.Marks.{AreSameMarks}
use Rattle.line_cuts.specs.Numbers.{IsNumbered, IsNumberedEntry, IsNumberedLine}
use Rattle.line_posts.specs.Collected.{CollectorView, IsWellNamed}
use Rattle.line_posts.specs.declared.forgetting.Forgotten.{Forgotten}
use Rattle.line_posts.specs.declared.forgetting.TheConstants.{ALL_ROUNDS}
use Rattle.line_posts.specs.Ends.{End}
use Rattle.line_posts.specs.Forgotten.{floor_after, history_kept, taken_history, IsLiveFloor}
use Rattle.line_plan.specs.declared.plans.Plan.{Plan}

-- what is kept is what is left of the history and its marks, cut at the floor, which is one of that
-- history and survives there
pub record IsLeftAt (floor : Floor) (history : List Process) (marks : MarksView)
    (kept : List Process) (kept_marks : MarksView) : Type 0 where
  pub agrees : Agrees history
  pub on : AreOnChecks history marks
  pub marked : length marks.damaged ≡ length history
  pub sends : length floor.sends ≡ length history
  pub round : floor.round ≡ ALL_ROUNDS
  pub is : IsFloor history floor
  pub stays : FloorSurvives history marks floor
  pub left : kept ≡ cut_history floor history
  pub left_marks : AreSameMarks kept_marks (cut_marks floor marks)

-- the floor that all else was let go before, where some was
abbrev pub floor_of : Option Forgotten → Option Floor
floor_of None = None
floor_of (Some forgotten) = Some forgotten.floor

-- the marks of the whole
abbrev pub whole_marks : Option Forgotten → MarksView → MarksView
whole_marks None kept_marks = kept_marks
whole_marks (Some forgotten) kept_marks = forgotten.marks

-- this is kept of the history: what is left of it, or all where nothing was let go
abbrev pub IsKeptOf : Option Forgotten → List Process → List Process → MarksView → Type 0
IsKeptOf None history kept kept_marks = kept ≡ history
IsKeptOf (Some forgotten) history kept kept_marks =
    IsLeftAt forgotten.floor history forgotten.marks kept kept_marks

-- the event may be added to the tape of process p
pub record MayAdd (floor : Option Floor) (history : List Process) (p : ℕ) (event : Event)
    : Type 0 where
  pub within : p < length history
  pub named : NamesBelow (length history) event
  pub short : HasLongState event → ⊥
  pub few : length (tape_at (history_kept floor history) p) ≢ MOST_EVENTS
  pub well : IsWellNamed floor history p event

-- a test of an event at process p finds nothing against it
abbrev pub IsTested : List Process → ℕ → Event → Type 0
IsTested history p event = (p < length history) × NamesBelow (length history) event
    × (HasLongState event → ⊥) × (length (tape_at history p) ≢ MOST_EVENTS)
    × AgreesNext history p event

-- it refuses one, for this cause
abbrev pub IsTestRefused : List Process → ℕ → Event → AddError → Type 0
IsTestRefused history p event NoSuchProcess =
    (length history ≤ p) ⊎ (NamesBelow (length history) event → ⊥)
IsTestRefused history p event StateTooLong =
    (p < length history) × NamesBelow (length history) event × HasLongState event
IsTestRefused history p event TapeFull = (p < length history)
    × NamesBelow (length history) event × (HasLongState event → ⊥)
    × (length (tape_at history p) ≡ MOST_EVENTS)
IsTestRefused history p event NamesDisagree = (p < length history)
    × NamesBelow (length history) event × (HasLongState event → ⊥)
    × (length (tape_at history p) ≢ MOST_EVENTS) × (AgreesNext history p event → ⊥)
IsTestRefused history p event OutOfMemory = ⊥

-- the collector with these parts
abbrev pub collector_at : List Process → Option Forgotten → MarksView → List (End Event)
    → List (List Event) → ℕ → CollectorView
collector_at opening forgotten kept_marks lines seen capacity = record {
  opening = opening;
  processes = taken_history opening lines;
  marks = whole_marks forgotten kept_marks;
  lines = lines;
  seen = seen;
  capacity = capacity;
  floor = floor_of forgotten;
}

-- the plan is one of this history: its line is the latest, with a valid chain and what is in
-- transit there
pub record IsPlanned (history : List Process) (marks : MarksView) (failed : List Bool)
    (plan : Plan) : Type 0 where
  pub latest : IsLatest history marks failed plan.line
  pub chain : IsChain history marks failed plan.certificate.items plan.line
  pub some_sweep : 1 ≤ plan.sweeps
  pub few_sweeps : plan.sweeps ≤ vec_len plan.certificate + 1
  pub replays : plan.replays.items ≡ in_transit history plan.line

-- all of the plan of what is kept has numbers in the whole
pub record IsNumberedPlan (floor : Floor) (plan : Plan) : Type 0 where
  pub line : IsNumberedLine floor plan.line
  pub certificate : All (IsNumberedEntry floor) plan.certificate.items
  pub replays : All (IsNumbered floor) plan.replays.items

-- the plan of what is kept has been brought back to the names and numbers of the whole
pub record IsBroughtBack (floor : Floor) (kept whole : Plan) : Type 0 where
  pub line : whole.line ≡ whole_line floor kept.line
  pub certificate : whole.certificate.items ≡ map (whole_entry floor) kept.certificate.items
  pub sweeps : whole.sweeps ≡ kept.sweeps
  pub replays : whole.replays.items ≡ map (whole_name floor) kept.replays.items

-- what stands before the latest line of what is kept, where each process fails, is let go
pub record HasLetGo (old : Option Forgotten) (kept : CatalogueView) (history : List Process)
    (new : Option Forgotten) (left : CatalogueView) : Type 0 where
  pub later : Floor
  pub at : IsLiveFloor kept.processes kept.marks later
  pub floor : floor_of new ≡ Some (floor_after (floor_of old) later)
  pub marks : whole_marks new left.marks ≡ whole_marks old kept.marks
  pub keeps : IsKeptOf new history left.processes left.marks

-- the catalogue of what was gathered: the one that was made anew, or else the collector's own
abbrev pub gathered_in : Option CatalogueView → CatalogueView → CatalogueView
gathered_in None own = own
gathered_in (Some anew) own = anew
