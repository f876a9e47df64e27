-- How recorded rounds are kept: the messages from each process once, and for each round where its
-- channels begin and end among them.
use Rattle.std.specs.Prelude.{◌≡◌, ℕ, zero, suc, ◌-◌, ◌<◌, ◌≤◌, min, Bool, true, false, List, []}
use Rattle.std.specs.Prelude.{◌∷◌, length, map, take, drop, slice_index_or}
use Rattle.line_names.specs.declared.messages.MsgName.{MsgName}
use Rattle.line_rounds.specs.declared.spans.Span.{Span}
use Rattle.line_rounds.specs.declared.spans.Span.TheVariants.{Open, Closed}
use Rattle.line_rounds.specs.Recording.{Channel, RecordedRound}

-- the messages kept from one process, and how many further ones take no memory
pub record SenderLogView : Type 0 where
  pub names : List MsgName
  pub room : ℕ

-- a round: its number, and where its channel from each process begins and ends
pub record RoundView : Type 0 where
  pub number : ℕ
  pub spans : List Span

-- the messages kept from each process
abbrev pub names_of : List SenderLogView → List (List MsgName)
names_of logs = map (λ log. log.names) logs

-- how many further messages, whoever sends them, take no memory
abbrev pub least_room : List SenderLogView → ℕ
least_room [] = 1
least_room (log ∷ logs) = min log.room (least_room logs)

-- a channel that begins where its sender's messages end
abbrev pub open_span : List MsgName → Span
open_span names = Open (length names)

-- a channel that is closed where this many messages stand; where it was closed before, as it was
abbrev pub closed_span : ℕ → Span → Span
closed_span end (Open start) = Closed start end
closed_span end (Closed start before) = Closed start before

-- its marker has come
abbrev pub is_over : Span → Bool
is_over (Open start) = false
is_over (Closed start end) = true

-- the channel that stands there
abbrev pub channel_in_span : List MsgName → Span → Channel
channel_in_span names (Open start) = record { messages = drop start names; is_closed = false }
channel_in_span names (Closed start end) =
    record { messages = take (end - start) (drop start names); is_closed = true }

-- the channels that stand there, one from each process
abbrev pub channels_in_spans : List (List MsgName) → List Span → List Channel
channels_in_spans [] spans = []
channels_in_spans (names ∷ rest) [] = []
channels_in_spans (names ∷ rest) (span ∷ spans) =
    channel_in_span names span ∷ channels_in_spans rest spans

-- a round as it is recorded, with the channels that stand there
abbrev pub recorded_of : List (List MsgName) → RoundView → RecordedRound
recorded_of names round =
    record { number = round.number; channels = channels_in_spans names round.spans }

-- a channel lies within its sender's messages
abbrev pub IsWithin : List MsgName → Span → Type 0
IsWithin names (Open start) = start ≤ length names
IsWithin names (Closed start end) = (start ≤ end) × (end ≤ length names)

-- each process has one channel, within its messages
abbrev pub AreWithin : List (List MsgName) → List Span → Type 0
AreWithin [] [] = Unit {0}
AreWithin [] (span ∷ spans) = ⊥
AreWithin (names ∷ rest) [] = ⊥
AreWithin (names ∷ rest) (span ∷ spans) = IsWithin names span × AreWithin rest spans

-- the numbers ascend, above the floor
abbrev pub IsAscending : ℕ → List RoundView → Type 0
IsAscending floor [] = Unit {0}
IsAscending floor (round ∷ rounds) = (floor < round.number) × IsAscending round.number rounds

-- in each round each process has one channel, within its messages
abbrev pub AllWithin : List (List MsgName) → List RoundView → Type 0
AllWithin names [] = Unit {0}
AllWithin names (round ∷ rounds) = AreWithin names round.spans × AllWithin names rounds

-- what holds of the rounds that are kept: their numbers ascend, above the floor, and their channels
-- lie within the messages
pub record AreRoundsKept (names : List (List MsgName)) (floor : ℕ)
    (rounds : List RoundView) : Type 0 where
  pub ascending : IsAscending floor rounds
  pub within : AllWithin names rounds

-- there are so many rounds, and in each of the first k the channel from process p is closed
abbrev pub AreOver : ℕ → ℕ → List RoundView → Type 0
AreOver p zero rounds = Unit {0}
AreOver p (suc k) [] = ⊥
AreOver p (suc k) (round ∷ rounds) =
    (is_over (slice_index_or round.spans p (Open 0)) ≡ true) × AreOver p k rounds

-- for each of n processes, in how many of the first rounds its channel is known to be closed
pub record ArePassed (passed : List ℕ) (n : ℕ) (rounds : List RoundView) : Type 0 where
  pub count : length passed ≡ n
  pub each : (p : ℕ) → p < n → AreOver p (slice_index_or passed p 0) rounds
