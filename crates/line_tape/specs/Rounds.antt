-- The rounds that the checks of a tape belong to (Chandy and Lamport, ACM TOCS 3(1), 1985).
use Rattle.std.specs.Prelude.{◌≡◌, ◌≢◌, ℕ, suc, ◌<◌, Bool, false, ◌==◌, ◌&&◌, ◌||◌, List, length}
use Rattle.std.specs.Prelude.{map, filter, Option, Some, None}
use Rattle.std.specs.List.{filter_map, list_any, list_all, range_with_len, before_first}
use Rattle.std.specs.List.{after_first}
use Rattle.line_names.specs.declared.choices.Choice.{Choice}
use Rattle.line_names.specs.declared.choices.Choice.TheVariants.{Check as AtCheck}
use Rattle.line_names.specs.declared.messages.MsgName.{MsgName}
use Rattle.line_tape.specs.declared.events.Event.{Event}
use Rattle.line_tape.specs.declared.events.Event.TheVariants.{Send, Recv, Check, Mark}
use Rattle.line_tape.specs.Event.{checks}
use Rattle.line_tape.specs.History.{Process, tape_at}
use Rattle.line_tape.specs.Line.{IsLine, IsConsistent}
use Rattle.line_tape.specs.Transit.{names_received, in_transit_between}

-- the round of a check
abbrev pub checked_round : Event → Option ℕ
checked_round (Send to inc body) = None
checked_round (Recv message) = None
checked_round (Check state round) = round
checked_round (Mark from round) = None

-- the rounds of the checks among these events, in order
abbrev pub rounds_checked : List Event → List ℕ
rounds_checked events = filter_map checked_round events

-- the event is a check of that round
abbrev pub is_check_of : ℕ → Event → Bool
is_check_of r (Send to inc body) = false
is_check_of r (Recv message) = false
is_check_of r (Check state None) = false
is_check_of r (Check state (Some round)) = round == r
is_check_of r (Mark from round) = false

-- the tape has a check of round r
abbrev pub has_check_of : ℕ → List Event → Bool
has_check_of r tape = list_any (is_check_of r) tape

-- the event is the marker of that round from process p
abbrev pub is_mark_of : ℕ → ℕ → Event → Bool
is_mark_of p r (Send to inc body) = false
is_mark_of p r (Recv message) = false
is_mark_of p r (Check state round) = false
is_mark_of p r (Mark from round) = (from == p) && (round == r)

-- the index of the tape's check of round r: one more than the checks before it
abbrev pub check_index : ℕ → List Event → ℕ
check_index r tape = suc (checks (before_first (is_check_of r) tape))

-- the events after the tape's check of round r
abbrev pub after_check : ℕ → List Event → List Event
after_check r tape = after_first (is_check_of r) tape

-- every tape has a check of round r
abbrev pub is_checked : List Process → ℕ → Bool
is_checked history r =
    list_all (λ q. has_check_of r (tape_at history q)) (range_with_len 0 (length history))

-- each process's check of round r
abbrev pub checks_of : List Process → ℕ → List ℕ
checks_of history r =
    map (λ q. check_index r (tape_at history q)) (range_with_len 0 (length history))

-- the line of some checks, one of each process
abbrev pub check_line : List ℕ → List Choice
check_line indices = map (λ c. AtCheck c) indices

-- the line of round r
abbrev pub round_line : List Process → ℕ → List Choice
round_line history r = check_line (checks_of history r)

-- after its check of round r the tape has the marker of r from process p
abbrev pub has_mark_of : ℕ → ℕ → List Event → Bool
has_mark_of p r tape = list_any (is_mark_of p r) (after_check r tape)

-- the tape of process q has its check of round r and, after it, a marker of r from each other
-- process
abbrev pub is_closed_at : List Process → ℕ → ℕ → Bool
is_closed_at history r q =
    has_check_of r (tape_at history q)
    && list_all (λ p. (p == q) || has_mark_of p r (tape_at history q))
    (range_with_len 0 (length history))

-- round r of markers is completed: every tape has its check and all its markers
abbrev pub is_completed_fifo : List Process → ℕ → Bool
is_completed_fifo history r = list_all (is_closed_at history r) (range_with_len 0 (length history))

-- the messages from process p among some
abbrev pub names_from : ℕ → List MsgName → List MsgName
names_from p messages = filter (λ (message : MsgName). message.from == p) messages

-- the channel from process p on a tape, in round r of markers: what it received from p after its
-- check and before p's marker
abbrev pub channel_on : ℕ → ℕ → List Event → List MsgName
channel_on p r tape =
    names_from p (names_received (before_first (is_mark_of p r) (after_check r tape)))

-- the channel from process p to q in round r of markers
abbrev pub channel_fifo : List Process → ℕ → ℕ → ℕ → List MsgName
channel_fifo history r p q = channel_on p r (tape_at history q)

-- a snapshot of the history: checks that make a consistent line, and for each two different
-- processes the messages in transit there
pub record IsSnapshot (history : List Process) (indices : List ℕ)
    (channels : ℕ → ℕ → List MsgName) : Type 0 where
  pub line : IsLine history (check_line indices)
  pub consistent : IsConsistent history (check_line indices)
  pub transit : (p q : ℕ) → p < length history → q < length history → p ≢ q
      → channels p q ≡ in_transit_between history (check_line indices) p q
