-- How much was received from each process before a choice, and how much was sent before a line, as
-- vectors.
use Rattle.std.specs.Prelude.{◌≡◌, ℕ, ◌+◌, ◌-◌, ◌<◌, ◌==◌, max, min, if◌then◌else◌, List, [], ◌∷◌}
use Rattle.std.specs.Prelude.{length, map, Contains}
use Rattle.std.specs.List.{range_with_len}
use Rattle.line_names.specs.declared.choices.Choice.{Choice}
use Rattle.line_names.specs.declared.messages.MsgName.{MsgName}
use Rattle.line_tape.specs.declared.events.Event.{Event}
use Rattle.line_tape.specs.declared.events.Event.TheVariants.{Send, Recv, Check, Mark}
use Rattle.line_tape.specs.Event.{sends}
use Rattle.line_tape.specs.Front.{front}
use Rattle.line_tape.specs.History.{Process, tape_at}
use Rattle.line_tape.specs.Line.{events_before}
use Rattle.line_vectors.specs.declared.limits.TheConstants.{LAST_NUMBER}

-- one more than the number of the message where process p sent it; else 0
abbrev pub number_past : ℕ → MsgName → ℕ
number_past p message = if message.from == p then message.number + 1 else 0

-- one more than the number of the message that the event receives from process p; 0 where it
-- receives none
abbrev pub reach_of_event : ℕ → Event → ℕ
reach_of_event p (Send to inc body) = 0
reach_of_event p (Recv message) = number_past p message
reach_of_event p (Check state round) = 0
reach_of_event p (Mark from round) = 0

-- one more than the greatest number that the events receive from process p; 0 where they receive
-- none
abbrev pub reach_from : List Event → ℕ → ℕ
reach_from [] p = 0
reach_from (event ∷ rest) p = max (reach_of_event p event) (reach_from rest p)

-- the events receive a message from process p with this number
pub record IsReceivedFrom (events : List Event) (p number : ℕ) : Type 0 where
  pub message : MsgName
  pub received : Contains events (Recv message)
  pub from_is : message.from ≡ p
  pub number_is : message.number ≡ number

-- the lane is one more than the greatest number that the events receive from process p, or 0 where
-- they receive none
pub record IsReach (events : List Event) (p lane : ℕ) : Type 0 where
  pub all_below : (message : MsgName) → Contains events (Recv message) → message.from ≡ p
      → message.number < lane
  pub greatest : (number : ℕ) → lane ≡ number + 1 → IsReceivedFrom events p number

-- the name under which a vector notes a message: the last number counts as the one before it
abbrev pub nearest : MsgName → MsgName
nearest message = record message { number = min message.number (LAST_NUMBER - 1) }

-- the lane of process p over the events, the last number counted as the one before it
abbrev pub kept_lane : List Event → ℕ → ℕ
kept_lane events p = min (reach_from events p) LAST_NUMBER

-- the vector of n lanes over the events
abbrev pub reach_of : ℕ → List Event → List ℕ
reach_of n events = map (kept_lane events) (range_with_len 0 n)

-- the vector of a choice of process q: of what it received before it
abbrev pub reach_before : List Process → ℕ → Choice → List ℕ
reach_before history q choice = reach_of (length history) (front (tape_at history q) choice)

-- how many sends of process p stand before the line
abbrev pub sent_count : List Process → List Choice → ℕ → ℕ
sent_count history line p = sends (events_before history line p)

-- the vector of a line: how many sends of each process stand before it
abbrev pub sents_of : List Process → List Choice → List ℕ
sents_of history line = map (sent_count history line) (range_with_len 0 (length history))
