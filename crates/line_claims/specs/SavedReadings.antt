-- What the text of a saved machine still spells, the first records of which were taken.
use Rattle.std.specs.Prelude.{◌≡◌, ◌≤◌, ◌-◌, ℕ, Bool, true, false, List, length, map}
use Rattle.std.specs.Prelude.{Result, Ok, codes}
use Rattle.line_fields.specs.Fields.{◌>>=◌}
use Rattle.line_fields.specs.Records.{Record}
use Rattle.line_claims.specs.declared.faults.TextFault.{TextFault}
use Rattle.line_claims.specs.declared.saved_readers.BegunSaved as begun
use Rattle.line_claims.specs.declared.saved_readers.SavedStage.{SavedStage}
use Rattle.line_claims.specs.declared.saved_readers.SavedStage.TheVariants as stages
use Rattle.line_claims.specs.declared.saved_rounds.SavedRound.{SavedRound}
use Rattle.line_claims.specs.declared.saved_rounds.SavedText as made
use Rattle.line_claims.specs.Entries.{bar_of, damage_of}
use Rattle.line_claims.specs.Parts.{Part, is_named, many, one}
use Rattle.line_claims.specs.Saved.{SavedParts, last_round_of, one_round_more}
use Rattle.line_claims.specs.Stages.{floors_left, tapes_left}

-- listed rounds, as lists
abbrev pub rounds_view : List SavedRound → List (ℕ × List ℕ)
rounds_view rounds = map (λ (round : SavedRound). (round.number, round.checks.items)) rounds

-- all as lists
abbrev pub saved_view : made.SavedText → SavedParts
saved_view text =
    record {
      floors = text.floors.items;
      history = text.history.processes;
      marks = text.marks;
      rounds = rounds_view text.rounds.items;
      last = text.last_round;
    }

-- the machine that these records end, from the i-th on, of which all was taken but the last round
abbrev pub last_left : SavedParts → ℕ → List Record → Result (Part SavedParts) TextFault
last_left parts i records = do
  last ← one (codes "saved") (last_round_of parts.rounds) i records
  Ok
      (record {
        value = record parts { last = last.value };
        number = last.number;
        left = last.left;
      })

-- that they end with more rounds
abbrev pub rounds_left : SavedParts → ℕ → List Record → Result (Part SavedParts) TextFault
rounds_left parts i records = do
  rounds ← many (is_named (codes "round")) (one_round_more parts.history) parts.rounds i records
  last_left (record parts { rounds = rounds.value }) rounds.number rounds.left

-- that they end with more bars
abbrev pub barred_left : ℕ → SavedParts → ℕ → List Record → Result (Part SavedParts) TextFault
barred_left n parts i records = do
  marks ← many (is_named (codes "bar")) (bar_of n) parts.marks i records
  rounds_left (record parts { marks = marks.value }) marks.number marks.left

-- that they end with more marks of damage
abbrev pub damaged_left : ℕ → SavedParts → ℕ → List Record → Result (Part SavedParts) TextFault
damaged_left n parts i records = do
  damage ← many (is_named (codes "damage")) (damage_of n) parts.marks i records
  barred_left n (record parts { marks = damage.value }) damage.number damage.left

-- that they end with more of its tapes, so many of which were begun
abbrev pub taped_left : ℕ → ℕ → SavedParts → ℕ → List Record → Result (Part SavedParts) TextFault
taped_left n tapes parts i records = do
  front ← tapes_left n tapes parts.history i records
  damaged_left n (record parts { history = front.value }) front.number front.left

-- that they end from that part on
abbrev pub part_left : SavedStage → ℕ → ℕ → SavedParts → ℕ → List Record
    → Result (Part SavedParts) TextFault
part_left stages.Floors n tapes parts i records = do
  floors ← floors_left (n - length parts.floors) parts.floors i records
  taped_left n 0 (record parts { floors = floors.value }) floors.number floors.left
part_left stages.Tapes n tapes parts i records = taped_left n tapes parts i records
part_left stages.Damage n tapes parts i records = damaged_left n parts i records
part_left stages.Bars n tapes parts i records = barred_left n parts i records
part_left stages.Rounds n tapes parts i records = rounds_left parts i records
part_left stages.Nothing n tapes parts i records =
    Ok (record { value = parts; number = i; left = records })

-- what was taken of a saved machine: so many tapes were begun, and the next record may be of that
-- part, or of one that may follow it
pub record SavedPlace : Type 0 where
  pub stage : SavedStage
  pub tapes : ℕ
  pub parts : SavedParts

-- the machine that was begun, and what stands after it
abbrev pub saved_left : SavedPlace → ℕ → List Record → Result (Part SavedParts) TextFault
saved_left place i records =
    part_left place.stage (length place.parts.history) place.tapes place.parts i records

-- no part follows that one
abbrev pub is_last : SavedStage → Bool
is_last stages.Nothing = true
is_last other = false

-- its last record was taken
abbrev pub is_whole : SavedPlace → Bool
is_whole place = is_last place.stage

-- what was begun, as lists
abbrev pub place_of : begun.BegunSaved → SavedPlace
place_of it = record { stage = it.stage; tapes = it.tapes; parts = saved_view it.text }

-- no more tapes were begun than there are, and there are marks of each process
pub record IsBegunSaved (it : begun.BegunSaved) : Type 0 where
  pub few : it.tapes ≤ length it.text.history.processes
  pub whole : length it.text.marks.damaged ≡ length it.text.history.processes
