-- What is kept of which sends are received, and how it follows the tapes.
use Rattle.std.specs.Prelude.{◌≡◌, ℕ, ◌<◌, ◌≤◌, ◌==◌, ◌&&◌, Bool, false, List, [], length}
use Rattle.std.specs.Prelude.{slice_index_or}
use Rattle.std.specs.List.{list_any}
use Rattle.line_names.specs.declared.messages.MsgName.{MsgName}
use Rattle.line_tape.specs.Event.{sends}
use Rattle.line_tape.specs.Fit.{IsSentTo}
use Rattle.line_tape.specs.History.{Process, tape_at}
use Rattle.line_tape.specs.Transit.{has_received}

-- the flags of what process p sends
abbrev pub flags_of : List (List Bool) → ℕ → List Bool
flags_of flags p = slice_index_or flags p []

-- the flag of process p's send of that number; where there is none it is not set
abbrev pub flag_at : List (List Bool) → ℕ → ℕ → Bool
flag_at flags p number = slice_index_or (flags_of flags p) number false

-- one of the messages is process p's of that number
abbrev pub names_send : List MsgName → ℕ → ℕ → Bool
names_send messages p number =
    list_any (λ (message : MsgName). (message.from == p) && (message.number == number)) messages

-- each send has a flag, which is set where the process that the message is for has received it; no
-- flag past the sends is set
pub record AreFlagged (history : List Process) (flags : List (List Bool)) : Type 0 where
  pub count : length flags ≡ length history
  pub enough : (p : ℕ) → p < length history → sends (tape_at history p) ≤ length (flags_of flags p)
  pub unsent : (p number : ℕ) → sends (tape_at history p) ≤ number → flag_at flags p number ≡ false
  pub each : (q : ℕ) (message : MsgName) → IsSentTo history q message
      → flag_at flags message.from message.number ≡ has_received (tape_at history q) message
