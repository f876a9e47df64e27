-- What is kept of the round that is open, and how it follows the tapes.
use Rattle.std.specs.Option.{unwrap_or}
use Rattle.std.specs.List.{count_by, sum_by}
use Rattle.std.specs.Int.{bit_at}
use Rattle.std.specs.Prelude.{◌≡◌, ◌≢◌, ◌==◌, ℕ, suc, ◌<◌, ◌≤◌, ◌+◌, ◌-◌, ◌*◌, ◌%◌, Bool, true}
use Rattle.std.specs.Prelude.{false, if◌then◌else◌, List, [], ◌∷◌, ◌++◌, length, slice_index_or}
use Rattle.std.specs.Prelude.{Option, Some, None, All, AllPairs}
use Rattle.line_rounds.specs.Recording.{Channel, MarkerView, RecordedRound, channel_at, messages_by}
use Rattle.line_rounds.specs.Recording.{round_of}
use Rattle.line_names.specs.declared.choices.Choice.{Choice}
use Rattle.line_names.specs.declared.messages.MsgName.{MsgName}
use Rattle.line_tape.specs.declared.events.Event.{Event}
use Rattle.line_tape.specs.History.{Process, tape_at}
use Rattle.line_tape.specs.Colours.{is_completed_unordered}
use Rattle.line_tape.specs.Rounds.{has_check_of, has_mark_of, channel_on, round_line}
use Rattle.line_tape.specs.Transit.{in_transit_between}
use Rattle.line_rounds.specs.Tables.{between, IsTable}
use Rattle.line_rounds.specs.Turning.{TurningView, IsLastLine, IsTurning}
use Rattle.line_tape.specs.declared.modes.Mode.{Mode}
use Rattle.line_tape.specs.declared.modes.Mode.TheVariants.{Fifo, Unordered}
use Rattle.line_moves.specs.Listed.{ListedRound, channel_table, is_begun, is_completed}
use Rattle.line_moves.specs.Listed.{listed_round}

-- a round that is open: its number, the check of each process or 0, and what each process has
-- recorded by markers
pub record OpenView : Type 0 where
  pub number : ℕ
  pub checks : List ℕ
  pub markers : List MarkerView

-- what a process has recorded where there is none
abbrev pub no_marker : MarkerView
no_marker = record { n = 0; me = 0; floor = 0; rounds = []; room = 0 }

-- what process q has recorded
abbrev pub marker_at : List MarkerView → ℕ → MarkerView
marker_at markers q = slice_index_or markers q no_marker

-- the marker of each of n processes
pub record AreMarkers (n : ℕ) (markers : List MarkerView) : Type 0 where
  pub count : length markers ≡ n
  pub n_is : (q : ℕ) → q < n → (marker_at markers q).n ≡ n
  pub me_is : (q : ℕ) → q < n → (marker_at markers q).me ≡ q

-- nothing is recorded, and rounds up to the floor are old
pub record IsFresh (floor : ℕ) (marker : MarkerView) : Type 0 where
  pub rounds : marker.rounds ≡ []
  pub floor_is : marker.floor ≡ floor

-- what the markers recorded of the channel from process p to q in round r
abbrev pub recorded_channel : List MarkerView → ℕ → ℕ → ℕ → List MsgName
recorded_channel markers r p q =
    unwrap_or (messages_by (round_of (marker_at markers q).rounds r) p) []

-- the channels of a recorded round
abbrev pub channels_in : Option RecordedRound → List Channel
channels_in None = []
channels_in (Some round) = round.channels

-- how many markers of round r have come to a process
abbrev pub markers_heard : ℕ → MarkerView → ℕ
markers_heard r marker =
    count_by (λ (channel : Channel). channel.is_closed) (channels_in (round_of marker.rounds r))

-- so many markers of round r at least are still to come to n processes: there is one on each
-- channel
abbrev pub AreToCome : ℕ → ℕ → ℕ → List MarkerView → Type 0
AreToCome to_come n r markers =
    0 < to_come → sum_by (markers_heard r) markers + to_come ≤ n * (n - 1)

-- what process q has recorded, where some processes have: nothing if it is none of them
abbrev pub marker_of : List MarkerView → ℕ → MarkerView
marker_of [] q = no_marker
marker_of (marker ∷ rest) q = if marker.me == q then marker else marker_of rest q

-- what these recorded of the channel from process p to q in round r
abbrev pub kept_channel : List MarkerView → ℕ → ℕ → ℕ → List MsgName
kept_channel markers r p q = unwrap_or (messages_by (round_of (marker_of markers q).rounds r) p) []

-- and of all channels between n processes
abbrev pub recorded_table : ℕ → List MarkerView → ℕ → List (List (List MsgName))
recorded_table n markers r = channel_table n (kept_channel markers r)

-- what a tape has of the channel from process p in round r
abbrev pub channel_on_tape : ℕ → ℕ → List Event → Channel
channel_on_tape p r tape =
    record { messages = channel_on p r tape; is_closed = has_mark_of p r tape }

-- what process q of n has recorded by its check of round r: its channel from each other process, as
-- its tape has it
pub record IsRecordedRound (n q r : ℕ) (tape : List Event)
    (rounds : List RecordedRound) : Type 0 where
  pub round : RecordedRound
  pub alone : rounds ≡ round ∷ []
  pub number_is : round.number ≡ r
  pub count : length round.channels ≡ n
  pub channels : (p : ℕ) → p < n → p ≢ q → channel_at round p ≡ channel_on_tape p r tape

-- it has recorded nothing before its check of the round
abbrev pub IsRoundOrNone : ℕ → ℕ → ℕ → List Event → Bool → List RecordedRound → Type 0
IsRoundOrNone n q r tape true rounds = IsRecordedRound n q r tape rounds
IsRoundOrNone n q r tape false rounds = rounds ≡ []

-- what process q of n has recorded of round r follows its tape; all rounds before are old
pub record IsMarkerOf (n q r : ℕ) (tape : List Event) (marker : MarkerView) : Type 0 where
  pub floor_is : marker.floor < r
  pub recorded : IsRoundOrNone n q r tape (has_check_of r tape) marker.rounds

-- what is kept of the open round beside what was recorded: its number and its checks
abbrev pub turning_of : OpenView → TurningView
turning_of round = record { number = round.number; checks = round.checks }

-- and back: the open round, of what is kept of it
abbrev pub recording_of : TurningView → List MarkerView → OpenView
recording_of turning markers =
    record { number = turning.number; checks = turning.checks; markers = markers }

-- what is kept of the open round follows the tapes: its checks, and what each process has recorded
pub record IsRecording (history : List Process) (round : OpenView) : Type 0 where
  pub turning : IsTurning history (turning_of round)
  pub markers : (q : ℕ) → q < length history
      → IsMarkerOf (length history) q round.number (tape_at history q) (marker_at round.markers q)

-- what is kept of the open round follows the tapes, in each mode: there are markers only on links
-- in order
abbrev pub IsRecordingIn : Mode → List Process → OpenView → Type 0
IsRecordingIn Fifo history round = IsRecording history round
IsRecordingIn Unordered history round = IsTurning history (turning_of round)

-- each round on a tape but one is completed, and what is kept of that one follows the tapes
pub record IsRunning (mode : Mode) (history : List Process) (round : OpenView) : Type 0 where
  pub others : (p r : ℕ) → has_check_of r (tape_at history p) ≡ true → r ≢ round.number
      → is_completed mode history r ≡ true
  pub recording : IsRecordingIn mode history round

-- each round on a tape is completed, but for the one that is kept as open
abbrev pub IsOnlyOpen : Mode → List Process → Option OpenView → Type 0
IsOnlyOpen mode history None =
    (p r : ℕ) → has_check_of r (tape_at history p) ≡ true → is_completed mode history r ≡ true
IsOnlyOpen mode history (Some round) = IsRunning mode history round

-- the round is the last one begun, it stands on a tape, and it isn't completed
pub record IsUnfinished (mode : Mode) (history : List Process) (last : ℕ)
    (round : OpenView) : Type 0 where
  pub number_is : round.number ≡ last
  pub begun : is_begun history last ≡ true
  pub unfinished : is_completed mode history last ≡ false

-- the round that is kept as open, if one is, is the last one begun and unfinished
abbrev pub IsLastBegun : Mode → List Process → ℕ → Option OpenView → Type 0
IsLastBegun mode history last None = Unit {0}
IsLastBegun mode history last (Some round) = IsUnfinished mode history last round

-- the number of the round that is kept as open
abbrev pub open_number : Option OpenView → Option ℕ
open_number None = None
open_number (Some round) = Some round.number

-- the least number that no listed round has reached: that of the open round, or else the next one
abbrev pub first_unlisted : Option OpenView → ℕ → ℕ
first_unlisted None last = suc last
first_unlisted (Some round) last = last

-- it is listed if it is completed
abbrev pub newly_closed : Mode → List Process → Option OpenView → List ListedRound
newly_closed mode history None = []
newly_closed mode history (Some round) =
    if is_completed mode history round.number
    then listed_round mode history round.number ∷ [] else []

-- and else stays open
abbrev pub left_open : Mode → List Process → Option OpenView → Option OpenView
left_open mode history None = None
left_open mode history (Some round) =
    if is_completed mode history round.number then None else Some round

-- a round of colours as it is kept beside rounds of markers
abbrev pub opened_by : TurningView → OpenView
opened_by turning = record { number = turning.number; checks = turning.checks; markers = [] }

-- the round of colours that is kept as open, if one is
abbrev pub opened_turning : Option TurningView → Option OpenView
opened_turning None = None
opened_turning (Some turning) = Some (opened_by turning)

-- round r of colours is kept as open, and its checks follow the tapes
pub record IsOpenTurning (history : List Process) (r : ℕ)
    (turning : Option TurningView) : Type 0 where
  pub round : TurningView
  pub is : turning ≡ Some round
  pub number_is : round.number ≡ r
  pub follows : IsTurning history round

-- round r of colours once a process took its check of it: listed after those before if it is
-- completed, and else still open
pub record IsListedOrOpen (history : List Process) (r : ℕ) (before : List ListedRound)
    (turning : Option TurningView) (rounds : List ListedRound) : Type 0 where
  pub round : TurningView
  pub number_is : round.number ≡ r
  pub follows : IsTurning history round
  pub listed : rounds ≡ before ++ newly_closed Unordered history (Some (opened_by round))
  pub left : opened_turning turning ≡ left_open Unordered history (Some (opened_by round))

-- the channels of a round that is completed, between n processes: by the markers, or as they were
-- counted
abbrev pub channels_kept : Option (List (List (List MsgName))) → ℕ → List MarkerView → ℕ
    → List (List (List MsgName))
channels_kept None n markers r = recorded_table n markers r
channels_kept (Some table) n markers r = channel_table n (between table)

-- what processes recorded, by process
abbrev pub AreByProcess : List MarkerView → Type 0
AreByProcess markers = AllPairs (λ (a b : MarkerView). a.me < b.me) markers

-- the bit of each process that recorded something is set, of 64 bits
abbrev pub AreRecordedBy : ℕ → List MarkerView → Type 0
AreRecordedBy bits markers =
    All (λ (marker : MarkerView). bit_at bits (marker.me % 64) ≡ 1) markers

-- they are there for each two of n processes; what was recorded is of n processes, and may be left
-- out where nothing was
abbrev pub AreChannels : Option (List (List (List MsgName))) → ℕ → List MarkerView → Type 0
AreChannels None n markers =
    All (λ (marker : MarkerView). marker.n ≡ n) markers × AreByProcess markers
AreChannels (Some table) n markers = IsTable n table

-- a table of channels has, from each process to each other, what is in transit at a line
pub record AreInTransit (history : List Process) (line : List Choice)
    (table : List (List (List MsgName))) : Type 0 where
  pub shape : IsTable (length history) table
  pub each : (p q : ℕ) → p < length history → q < length history → p ≢ q
      → between table p q ≡ in_transit_between history line p q

-- a table of channels has what is in transit where process p stands now and each other is at its
-- check
pub record AreCountedAtLast (history : List Process) (turning : TurningView) (p : ℕ)
    (table : List (List (List MsgName))) : Type 0 where
  pub line : List Choice
  pub last : IsLastLine turning p line
  pub counted : AreInTransit history line table

-- what was counted for round r of colours: where it is completed what is in transit at its checks,
-- and else nothing
abbrev pub IsCountedAtRound : List Process → ℕ → Option (List (List (List MsgName))) → Type 0
IsCountedAtRound history r None = is_completed_unordered history r ≡ false
IsCountedAtRound history r (Some table) =
    (is_completed_unordered history r ≡ true) × AreInTransit history (round_line history r) table
