-- What keeps to the ranges that the fields of a saved machine have.
use Rattle.std.specs.Prelude.{◌≡◌, ℕ, ◌≤◌, ◌<◌, List, [], ◌∷◌, length}
use Rattle.std.specs.List.{AllByRecursion}
use Rattle.line_tape.specs.declared.limits.TheConstants.{LAST_ROUND}
use Rattle.line_tape.specs.Event.{checks}
use Rattle.line_tape.specs.History.{Process}
use Rattle.line_claims.specs.declared.versions.TheConstants.{LAST_CHECK_VERSION}
use Rattle.line_claims.specs.Ranges.{AreFloorsInRange, AreMarks, IsBar, IsHistoryInRange}
use Rattle.line_claims.specs.Saved.{SavedParts, last_listed}

-- a check of each of these processes, from 0 to the last one that its tape has
abbrev pub AreChecksAmong : List Process → List ℕ → Type 0
AreChecksAmong [] [] = Unit {0}
AreChecksAmong [] (check ∷ others) = ⊥
AreChecksAmong (process ∷ rest) [] = ⊥
AreChecksAmong (process ∷ rest) (check ∷ others) =
    (check ≤ checks process.tape) × AreChecksAmong rest others

-- rounds after the one of that number, each after those before it, with a check of each process
abbrev pub AreRoundsAfter : List Process → ℕ → List (ℕ × List ℕ) → Type 0
AreRoundsAfter history before [] = Unit {0}
AreRoundsAfter history before (round ∷ others) =
    (before < round.0) × (round.0 ≤ LAST_ROUND) × AreChecksAmong history round.1
    × AreRoundsAfter history round.0 others

-- a saved machine
pub record IsSavedInRange (parts : SavedParts) : Type 0 where
  pub history : IsHistoryInRange parts.history
  pub floors : AreFloorsInRange LAST_CHECK_VERSION (length parts.history) parts.floors
  pub whole : length parts.marks.damaged ≡ length parts.history
  pub marks : AllByRecursion (AreMarks []) parts.marks.damaged
  pub barred : length parts.marks.bars ≡ length parts.history
  pub bars : AllByRecursion IsBar parts.marks.bars
  pub rounds : AreRoundsAfter parts.history 0 parts.rounds
  pub listed : last_listed parts.rounds ≤ parts.last
  pub last : parts.last ≤ LAST_ROUND
