-- What a worker has recorded of rounds, beside its tape.
use Rattle.std.specs.Prelude.{◌≡◌, ◌≢◌, ℕ, ◌<◌, ◌≤◌, true, false, if◌then◌else◌, nat_lt, IsTrue}
use Rattle.std.specs.Prelude.{List, MatchOption, length, Some, None, All}
use Rattle.line_rounds.specs.Recording.{Channel, RecordedRound, channel_at, latest}
use Rattle.line_rounds.specs.Recording.{rounds_with_message, with_marker}
use Rattle.line_rounds.specs.Recording.{with_round, round_of}
use Rattle.line_tape.specs.declared.events.Event.{Event}
use Rattle.line_tape.specs.declared.events.Event.TheVariants.{Send, Recv, Check, Mark}
use Rattle.line_tape.specs.Rounds.{channel_on, has_check_of, has_mark_of}

-- the tape of process `me` of n, and what it has recorded of rounds, those up to the floor being
-- old; the next `room` events take no memory on the tape, and the next `ready` calls take none in
-- what is recorded
pub record JournalView : Type 0 where
  pub n : ℕ
  pub me : ℕ
  pub floor : ℕ
  pub tape : List Event
  pub rounds : List RecordedRound
  pub room : ℕ
  pub ready : ℕ

-- the channel from process p in round r, as a tape has it
abbrev pub channel_of : ℕ → ℕ → List Event → Channel
channel_of p r tape = record { messages = channel_on p r tape; is_closed = has_mark_of p r tape }

-- a recorded round of n processes is as the tape has it: its check is there, and on each channel
-- what came after the check and before that process's marker
pub record IsRoundOn (n : ℕ) (tape : List Event) (round : RecordedRound) : Type 0 where
  pub checked : has_check_of round.number tape ≡ true
  pub count : length round.channels ≡ n
  pub channels : (p : ℕ) → channel_at round p ≡ channel_of p round.number tape

-- each recorded round is as the tape has it, and no check of the tape is of a later one
pub record IsRecorded (n floor : ℕ) (tape : List Event) (rounds : List RecordedRound) : Type 0 where
  pub each : All (IsRoundOn n tape) rounds
  pub within : (r : ℕ) → has_check_of r tape ≡ true → r ≤ latest floor rounds

-- what is recorded after an event: a message goes on the channel from its sender, the check of a
-- new round opens its channels, and a marker closes its own
abbrev pub rounds_by : ℕ → ℕ → List RecordedRound → Event → List RecordedRound
rounds_by n floor rounds (Send to inc body) = rounds
rounds_by n floor rounds (Recv message) = rounds_with_message rounds message
rounds_by n floor rounds (Check state None) = rounds
rounds_by n floor rounds (Check state (Some r)) =
    if nat_lt (latest floor rounds) r then with_round rounds n r else rounds
rounds_by n floor rounds (Mark from r) = with_marker rounds from r

-- the event may come next: what comes is from another process, a check is of a round that the tape
-- has none of, and a marker of one that it has
abbrev pub MayCome : ℕ → ℕ → List Event → Event → Type 0
MayCome n me tape (Send to inc body) = Unit {0}
MayCome n me tape (Recv message) = (message.from < n) × (message.from ≢ me)
MayCome n me tape (Check state None) = Unit {0}
MayCome n me tape (Check state (Some r)) = has_check_of r tape ≡ false
MayCome n me tape (Mark from r) = (from < n) × (from ≢ me) × (has_check_of r tape ≡ true)

-- the marker of the round is in from each of the n processes but `me`
abbrev pub IsAllIn : ℕ → ℕ → RecordedRound → Type 0
IsAllIn n me round = (q : ℕ) → q < n → q ≢ me → IsTrue (channel_at round q).is_closed

-- the last round that process `me` recorded is still open: not every other process's marker is in
abbrev pub IsOpen : ℕ → ℕ → ℕ → List RecordedRound → Type 0
IsOpen n me floor rounds = (floor < latest floor rounds)
    × (MatchOption (round_of rounds (latest floor rounds)) ⊥ (IsAllIn n me) → ⊥)

-- the journal is of the same process, of as many processes, and has the same floor
pub record IsSameJournal (old new : JournalView) : Type 0 where
  pub n_is : new.n ≡ old.n
  pub me_is : new.me ≡ old.me
  pub floor_is : new.floor ≡ old.floor
