-- What one process records of rounds by markers (Chandy and Lamport, ACM TOCS 3(1), 1985).
use Rattle.std.specs.Prelude.{◌≡◌, ◌≢◌, ℕ, ◌<◌, Bool, true, false, IsTrue, List, [], ◌∷◌, ◌++◌, map}
use Rattle.std.specs.Prelude.{max, replicate, slice_index_or, slice_set, Option, Some, None}
use Rattle.std.specs.Prelude.{MatchOption, if◌then◌else◌, ◌==◌, nat_lt}
use Rattle.line_names.specs.declared.messages.MsgName.{MsgName}
use Rattle.line_rounds.specs.declared.markers.Effect.{Effect}
use Rattle.line_rounds.specs.declared.markers.Effect.TheVariants.{Closed, Forced, Ignored}

-- the channel from one process in one round: what was noted on it before its marker, and whether
-- that marker has come
pub record Channel : Type 0 where
  pub messages : List MsgName
  pub is_closed : Bool

-- a recorded round: its number, and the channel from each process
pub record RecordedRound : Type 0 where
  pub number : ℕ
  pub channels : List Channel

-- what process `me` of `n` has recorded, rounds up to the floor being old; with room, the next call
-- takes no memory
pub record MarkerView : Type 0 where
  pub n : ℕ
  pub me : ℕ
  pub floor : ℕ
  pub rounds : List RecordedRound
  pub room : ℕ

-- a channel on which nothing was noted, with no marker yet
abbrev pub open_channel : Channel
open_channel = record { messages = []; is_closed = false }

-- the channel from process p
abbrev pub channel_at : RecordedRound → ℕ → Channel
channel_at round p = slice_index_or round.channels p open_channel

-- the round with another channel from process p
abbrev pub with_channel : RecordedRound → ℕ → Channel → RecordedRound
with_channel round p channel = record round { channels = slice_set round.channels p channel }

-- the recorded round of this number
abbrev pub round_of : List RecordedRound → ℕ → Option RecordedRound
round_of [] number = None
round_of (round ∷ rounds) number =
    if round.number == number then Some round else round_of rounds number

-- the greatest of the floor and the recorded rounds
abbrev pub latest : ℕ → List RecordedRound → ℕ
latest floor [] = floor
latest floor (round ∷ rounds) = max round.number (latest floor rounds)

-- one round more is recorded: the channels from n processes are open and empty
abbrev pub with_round : List RecordedRound → ℕ → ℕ → List RecordedRound
with_round rounds n number =
    rounds ++ record { number = number; channels = replicate n open_channel } ∷ []

-- the marker of a round has come from process p: its channel is closed in that round
abbrev pub with_marker : List RecordedRound → ℕ → ℕ → List RecordedRound
with_marker rounds p number =
    map
    (λ round. if round.number == number
    then with_channel round p (record (channel_at round p) { is_closed = true })
    else round)
    rounds

-- a message more on a channel; a closed channel stays as it is
abbrev pub with_message : Channel → MsgName → Channel
with_message channel message =
    if channel.is_closed
    then channel
    else record channel { messages = channel.messages ++ message ∷ [] }

-- a message has come: each recorded round has it on the channel from its sender, where that is not
-- closed
abbrev pub rounds_with_message : List RecordedRound → MsgName → List RecordedRound
rounds_with_message rounds message =
    map (λ round. with_channel round message.from
    (with_message (channel_at round message.from) message))
    rounds

-- what the marker of a round does: it closes a channel of a recorded round, has a new round
-- recorded, or comes of an old round
abbrev pub effect_by : Option RecordedRound → Bool → Effect
effect_by (Some round) is_new = Closed
effect_by None true = Forced
effect_by None false = Ignored

-- what the marker of that round does to what a process has recorded
abbrev pub effect_of : MarkerView → ℕ → Effect
effect_of marker number =
    effect_by (round_of marker.rounds number) (nat_lt (latest marker.floor marker.rounds) number)

-- the rounds recorded after a marker from a process had this effect; where it had the round
-- recorded, the channel from that process is empty and closed
abbrev pub rounds_after : Effect → MarkerView → ℕ → ℕ → List RecordedRound
rounds_after Closed marker from number = with_marker marker.rounds from number
rounds_after Forced marker from number =
    with_marker (with_round marker.rounds marker.n number) from number
rounds_after Ignored marker from number = marker.rounds

-- the marker of a recorded round has come from process p before
abbrev pub IsRepeated : List RecordedRound → ℕ → ℕ → Type 0
IsRepeated rounds p number =
    MatchOption (round_of rounds number) ⊥ (λ round. IsTrue (channel_at round p).is_closed)

-- the messages noted from process p in a recorded round
abbrev pub messages_by : Option RecordedRound → ℕ → Option (List MsgName)
messages_by (Some round) p = Some (channel_at round p).messages
messages_by None p = None

-- the round is recorded, and its marker has come from each other process
abbrev pub IsOver : MarkerView → ℕ → Type 0
IsOver marker number =
    MatchOption (round_of marker.rounds number) ⊥
    (λ round. (q : ℕ) → q < marker.n → q ≢ marker.me → IsTrue (channel_at round q).is_closed)

-- it is still the same process of the same computation, with the same floor
pub record IsSameProcess (old new : MarkerView) : Type 0 where
  pub n_is : new.n ≡ old.n
  pub me_is : new.me ≡ old.me
  pub floor_is : new.floor ≡ old.floor
