-- Lines, and which of them are consistent (Elnozahy, Alvisi, Wang and Johnson, ACM Computing
-- Surveys 34(3), 2002).
use Rattle.std.specs.Prelude.{◌≡◌, ℕ, List, length, Contains, Option, Some, None}
use Rattle.line_names.specs.declared.choices.Choice.{Choice}
use Rattle.line_names.specs.declared.messages.MsgName.{MsgName}
use Rattle.line_names.specs.Lines.{choice_at}
use Rattle.line_tape.specs.declared.events.Event.{Event}
use Rattle.line_tape.specs.declared.events.Event.TheVariants.{Recv}
use Rattle.line_tape.specs.Event.{Holds}
use Rattle.line_tape.specs.Front.{front, HasChoice}
use Rattle.line_tape.specs.History.{Process, tape_at}

-- what process p did before its choice of the line
abbrev pub events_before : List Process → List Choice → ℕ → List Event
events_before history line p = front (tape_at history p) (choice_at line p)

-- the line has one choice for each process, which its tape has
pub record IsLine (history : List Process) (line : List Choice) : Type 0 where
  pub length_is : length line ≡ length history
  pub exist : (p : ℕ) → HasChoice (tape_at history p) (choice_at line p)

-- the message's send stands before the choice of its sender
abbrev pub IsSentBefore : List Process → List Choice → MsgName → Type 0
IsSentBefore history line message =
    Holds (events_before history line message.from) message.inc message.number

-- a receipt of the message stands before the choice of process q
abbrev pub IsReceivedBefore : List Process → List Choice → ℕ → MsgName → Type 0
IsReceivedBefore history line q message = Contains (events_before history line q) (Recv message)

-- an orphan among these events: a message received there that is not sent before the line
pub record IsOrphanAmong (history : List Process) (line : List Choice) (events : List Event)
    (message : MsgName) : Type 0 where
  pub received : Contains events (Recv message)
  pub unsent : IsSentBefore history line message → ⊥

-- an orphan at process q: a message that q has received before the line and that is not sent before
-- the line
abbrev pub IsOrphan : List Process → List Choice → ℕ → MsgName → Type 0
IsOrphan history line q message = IsOrphanAmong history line (events_before history line q) message

-- each message that is received among these events is sent before the line
abbrev pub AreSentBefore : List Process → List Choice → List Event → Type 0
AreSentBefore history line events =
    (message : MsgName) → Contains events (Recv message) → IsSentBefore history line message

-- an orphan is found among these events, or none is and there is none
abbrev pub IsFoundAmong : List Process → List Choice → List Event → Option MsgName → Type 0
IsFoundAmong history line events None = AreSentBefore history line events
IsFoundAmong history line events (Some message) = IsOrphanAmong history line events message

-- no process has received a message before the line that is not sent before it
abbrev pub IsConsistent : List Process → List Choice → Type 0
IsConsistent history line = (q : ℕ) → AreSentBefore history line (events_before history line q)
