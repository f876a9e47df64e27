-- What is kept of the colours of processes, and how it follows the tapes (Lai and Yang, Information
-- Processing Letters 25(3), 1987).
use Rattle.std.specs.Prelude.{◌≡◌, ℕ, ◌<◌, List, [], length, slice_index_or}
use Rattle.line_tape.specs.declared.events.Event.{Event}
use Rattle.line_tape.specs.Colours.{colour}
use Rattle.line_tape.specs.History.{Process, tape_at}
use Rattle.line_tape.specs.Turns.{Turn, turns_of}

-- what is kept of one process: its colour, and the turns of its tape
pub record ProcessTurns : Type 0 where
  pub colour : ℕ
  pub turns : List Turn

-- what is kept of a process that has no check of a round
abbrev pub no_turns : ProcessTurns
no_turns = record { colour = 0; turns = [] }

-- what is kept of process q
abbrev pub turns_at : List ProcessTurns → ℕ → ProcessTurns
turns_at colours q = slice_index_or colours q no_turns

-- it follows the tape
pub record IsTurned (tape : List Event) (turned : ProcessTurns) : Type 0 where
  pub colour_is : turned.colour ≡ colour tape
  pub turns_are : turned.turns ≡ turns_of tape

-- what is kept of each process follows the tapes
pub record AreTurned (history : List Process) (colours : List ProcessTurns) : Type 0 where
  pub count : length colours ≡ length history
  pub each : (q : ℕ) → q < length history → IsTurned (tape_at history q) (turns_at colours q)
