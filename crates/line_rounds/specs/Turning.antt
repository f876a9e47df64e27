-- A round of colours that is open, and how it follows the tapes (Lai and Yang, Information
-- Processing Letters 25(3), 1987).
use Rattle.std.specs.Prelude.{◌≡◌, ◌≢◌, ℕ, ◌<◌, if◌then◌else◌, List, length, slice_index_or}
use Rattle.line_names.specs.declared.choices.Choice.{Choice}
use Rattle.line_names.specs.declared.choices.Choice.TheVariants.{Check, Now}
use Rattle.line_names.specs.Lines.{choice_at}
use Rattle.line_tape.specs.declared.events.Event.{Event}
use Rattle.line_tape.specs.History.{Process, tape_at}
use Rattle.line_tape.specs.Rounds.{has_check_of, check_index}

-- a round that is open: its number, and the check of each process or 0
pub record TurningView : Type 0 where
  pub number : ℕ
  pub checks : List ℕ

-- the index of the tape's check of round r, or 0
abbrev pub check_or_none : ℕ → List Event → ℕ
check_or_none r tape = if has_check_of r tape then check_index r tape else 0

-- the checks follow the tapes
pub record IsTurning (history : List Process) (turning : TurningView) : Type 0 where
  pub count : length turning.checks ≡ length history
  pub checks : (q : ℕ) → q < length history
      → slice_index_or turning.checks q 0 ≡ check_or_none turning.number (tape_at history q)

-- the line where process p stands now, and each other at its check of the round
pub record IsLastLine (turning : TurningView) (p : ℕ) (line : List Choice) : Type 0 where
  pub count : length line ≡ length turning.checks
  pub now : choice_at line p ≡ Now
  pub others : (q : ℕ) → q < length turning.checks → q ≢ p
      → choice_at line q ≡ Check (slice_index_or turning.checks q 0)
