-- What a collector has let go, and what it keeps of the whole history.
use Rattle.std.specs.Prelude.{◌≡◌, ◌<◌, ◌++◌, ℕ, Bool, IsTrue, List, length, map, Option, Some}
use Rattle.std.specs.Prelude.{None}
use Rattle.std.specs.List.{range_with_len}
use Rattle.line_names.specs.declared.choices.Choice.{Choice}
use Rattle.line_names.specs.Sets.{is_member}
use Rattle.line_tape.specs.declared.events.Event.{Event}
use Rattle.line_tape.specs.declared.events.Event.TheVariants.{Send, Recv, Check, Mark}
use Rattle.line_tape.specs.History.{Process, process_at, tape_at}
use Rattle.line_tape.specs.Survival.{IsLatest}
use Rattle.line_tape.specs.Views.{MarksView}
use Rattle.line_cuts.specs.Cuts.{Floor, cut_history, cut_marks, lost_sends, whole_floor}
use Rattle.line_cuts.specs.Floors.{floor_of_line}
use Rattle.line_posts.specs.declared.forgetting.TheConstants.{ALL_ROUNDS}
use Rattle.line_posts.specs.Ends.{End, items_at}

-- the history of what was taken: of each process the tape that it opened with, and then what passed
-- its report line
abbrev pub taken_history : List Process → List (End Event) → List Process
taken_history opening lines =
    map (λ p. record (process_at opening p) { tape = tape_at opening p ++ items_at lines p })
    (range_with_len 0 (length opening))

-- what is kept of a history: what is left at the floor, or all where nothing was let go
abbrev pub history_kept : Option Floor → List Process → List Process
history_kept None history = history
history_kept (Some floor) history = cut_history floor history

-- what is kept of marks
abbrev pub kept_marks : Option Floor → MarksView → MarksView
kept_marks None marks = marks
kept_marks (Some floor) marks = cut_marks floor marks

-- the event receives a message that was let go
abbrev pub ReceivesGone : Option Floor → Event → Type 0
ReceivesGone None event = ⊥
ReceivesGone (Some floor) (Send to inc body) = ⊥
ReceivesGone (Some floor) (Recv message) = message.number < lost_sends floor message.from
ReceivesGone (Some floor) (Check state round) = ⊥
ReceivesGone (Some floor) (Mark from round) = ⊥

-- each of the first n processes failed
abbrev pub HaveAllFailed : ℕ → List Bool → Type 0
HaveAllFailed n failed = (q : ℕ) → q < n → IsTrue (is_member failed q)

-- the floor is at the latest line where each process fails, and of rounds it lets go all
pub record IsLiveFloor (history : List Process) (marks : MarksView) (floor : Floor) : Type 0 where
  pub failed : List Bool
  pub all : HaveAllFailed (length history) failed
  pub line : List Choice
  pub latest : IsLatest history marks failed line
  pub value : floor ≡ floor_of_line history line ALL_ROUNDS

-- the floor of all that is let go, where some was let go before and this is a floor of what is kept
abbrev pub floor_after : Option Floor → Floor → Floor
floor_after None later = later
floor_after (Some floor) later = whole_floor floor later
