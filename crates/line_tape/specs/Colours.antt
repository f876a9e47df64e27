-- Colours of processes and messages, and rounds without markers (Lai and Yang, Information
-- Processing Letters 25(3), 1987), with round numbers for white and red.
use Rattle.std.specs.Prelude.{◌≡◌, ℕ, zero, suc, ◌<◌, ◌≤◌, Bool, List, [], ◌∷◌, max, take}
use Rattle.std.specs.Prelude.{slice_get, Some, None}
use Rattle.line_names.specs.declared.messages.MsgName.{MsgName}
use Rattle.line_tape.specs.declared.events.Event.{Event}
use Rattle.line_tape.specs.declared.events.Event.TheVariants.{Send, Recv, Check, Mark}
use Rattle.line_tape.specs.History.{Process, tape_at}
use Rattle.line_tape.specs.Rounds.{rounds_checked, is_checked, round_line}
use Rattle.line_tape.specs.Transit.{in_transit_between}

-- the greatest of some numbers; 0 where there are none
abbrev pub greatest : List ℕ → ℕ
greatest [] = 0
greatest (number ∷ rest) = max number (greatest rest)

-- the colour of a process after these events: the greatest round of its checks, or 0
abbrev pub colour : List Event → ℕ
colour events = greatest (rounds_checked events)

-- the colour at a place of a tape
abbrev pub colour_at : List Event → ℕ → ℕ
colour_at tape i = colour (take i tape)

-- how many events stand before the send of that number, the sends counted from 0; all where there
-- is none
abbrev pub send_place : List Event → ℕ → ℕ
send_place [] number = 0
send_place (Send to inc body ∷ rest) zero = 0
send_place (Send to inc body ∷ rest) (suc number) = suc (send_place rest number)
send_place (Recv message ∷ rest) number = suc (send_place rest number)
send_place (Check state round ∷ rest) number = suc (send_place rest number)
send_place (Mark from round ∷ rest) number = suc (send_place rest number)

-- a message has the colour of its sender at its send
abbrev pub message_colour : List Process → MsgName → ℕ
message_colour history message =
    colour_at (tape_at history message.from)
    (send_place (tape_at history message.from) message.number)

-- each check of a round on the tape is of a greater round than the colour before it
abbrev pub ColoursRise : List Event → Type 0
ColoursRise tape =
    (i : ℕ) (state : List ℕ) (round : ℕ) → slice_get tape i ≡ Some (Check state (Some round))
    → colour_at tape i < round

-- the rounds of each tape rise, and no process received a message of a greater colour than it had
-- itself
pub record AreColoured (history : List Process) : Type 0 where
  pub rise : (p : ℕ) → ColoursRise (tape_at history p)
  pub received : (q i : ℕ) (message : MsgName)
      → slice_get (tape_at history q) i ≡ Some (Recv message)
      → message_colour history message ≤ colour_at (tape_at history q) i

-- the event may come next at process p: a round is greater than p's colour, and the colour of a
-- message isn't
abbrev pub IsNextColoured : List Process → ℕ → Event → Type 0
IsNextColoured history p (Send to inc body) = Unit {0}
IsNextColoured history p (Recv message) =
    message_colour history message ≤ colour (tape_at history p)
IsNextColoured history p (Check state None) = Unit {0}
IsNextColoured history p (Check state (Some round)) = colour (tape_at history p) < round
IsNextColoured history p (Mark from round) = Unit {0}

-- round r of colours is completed: every tape has its check
abbrev pub is_completed_unordered : List Process → ℕ → Bool
is_completed_unordered history r = is_checked history r

-- the channel from process p to q in round r of colours: what is in transit at its line
abbrev pub channel_unordered : List Process → ℕ → ℕ → ℕ → List MsgName
channel_unordered history r p q = in_transit_between history (round_line history r) p q
