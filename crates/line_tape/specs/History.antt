-- Histories: what each process did, and under which incarnation it goes on (Elnozahy, Alvisi, Wang
-- and Johnson, ACM Computing Surveys 34(3), 2002).
use Rattle.std.specs.Prelude.{ℕ, ◌≤◌, List, [], ◌∷◌, ◌++◌, length, All, slice_index_or, slice_set}
use Rattle.line_names.specs.declared.limits.TheConstants.{MOST_PROCESSES}
use Rattle.line_tape.specs.declared.events.Event.{Event}
use Rattle.line_tape.specs.declared.limits.TheConstants.{MOST_EVENTS}
use Rattle.line_tape.specs.Event.{IsShort, NamesBelow}

-- a process: its present incarnation, and its events so far
pub record Process : Type 0 where
  pub incarnation : ℕ
  pub tape : List Event

-- a process that has done nothing yet
abbrev pub fresh : Process
fresh = record { incarnation = 0; tape = [] }

-- process p of a history; a fresh one where there is none
abbrev pub process_at : List Process → ℕ → Process
process_at history p = slice_index_or history p fresh

-- the tape of process p
abbrev pub tape_at : List Process → ℕ → List Event
tape_at history p = (process_at history p).tape

-- the present incarnation of process p
abbrev pub incarnation_at : List Process → ℕ → ℕ
incarnation_at history p = (process_at history p).incarnation

-- the history with one more event at the end of the tape of process p
abbrev pub with_event : List Process → ℕ → Event → List Process
with_event history p event =
    slice_set history p (record (process_at history p) { tape = tape_at history p ++ event ∷ [] })

-- the history with another present incarnation of process p
abbrev pub with_incarnation : List Process → ℕ → ℕ → List Process
with_incarnation history p inc =
    slice_set history p (record (process_at history p) { incarnation = inc })

-- what holds of the events of every tape: it keeps within the limits
pub record IsTape (events : List Event) : Type 0 where
  pub few : length events ≤ MOST_EVENTS
  pub short : All IsShort events

-- what holds of every process among n: its events name these alone
pub record IsProcess (n : ℕ) (process : Process) : Type 0 where
  pub tape : IsTape process.tape
  pub named : All (NamesBelow n) process.tape

-- what holds of every history
pub record IsHistory (history : List Process) : Type 0 where
  pub some : 1 ≤ length history
  pub few : length history ≤ MOST_PROCESSES
  pub processes : All (IsProcess (length history)) history
