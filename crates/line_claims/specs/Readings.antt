-- What a check text still spells, the first records of which were taken.
use Rattle.std.specs.Prelude.{◌≡◌, ◌≤◌, ◌⊎◌, ◌-◌, ℕ, List, [], false, length, nat_le, Option}
use Rattle.std.specs.Prelude.{Some, None, Result, Ok, Err, if◌then◌else◌}
use Rattle.line_fields.specs.Fields.{◌>>=◌}
use Rattle.line_fields.specs.Records.{EndsLine, Record}
use Rattle.line_claims.specs.declared.faults.TextFault.{TextFault}
use Rattle.line_claims.specs.declared.readers.BegunCheck as made
use Rattle.line_claims.specs.declared.readers.CheckStage.{CheckStage}
use Rattle.line_claims.specs.declared.readers.CheckStage.TheVariants as stages
use Rattle.line_claims.specs.Events.{is_event}
use Rattle.line_claims.specs.Stages.{claim_left, damage_left, floors_left, tapes_left}
use Rattle.line_claims.specs.Texts.{Check, check_text_of, check_view, records_in}

-- the check text of n processes that these records end, from the i-th on, so many tapes of which
-- were begun: what was let go, its tapes and the claim; its tapes and the claim; or its claim from
-- that part on
abbrev pub stage_left : CheckStage → ℕ → ℕ → ℕ → Check → ℕ → List Record
    → Result Check TextFault
stage_left stages.Floors version n tapes check i records = do
  floors ← floors_left (n - length check.floors) check.floors i records
  front ← tapes_left n 0 check.history floors.number floors.left
  claim ← damage_left version n check.claim front.number front.left
  Ok (record { history = front.value; floors = floors.value; claim = claim })
stage_left stages.Tapes version n tapes check i records = do
  front ← tapes_left n tapes check.history i records
  claim ← damage_left version n check.claim front.number front.left
  Ok (record { history = front.value; floors = check.floors; claim = claim })
stage_left (stages.Claim stage) version n tapes check i records = do
  claim ← claim_left stage version n check.claim i records
  Ok (record { history = check.history; floors = check.floors; claim = claim })

-- the part of a check text of a version that follows its first record
abbrev pub first_stage : ℕ → CheckStage
first_stage version = if nat_le 4 version then stages.Floors else stages.Tapes

-- what was begun, as lists
pub record Begun : Type 0 where
  pub version : ℕ
  pub tapes : ℕ
  pub stage : CheckStage
  pub check : Check

abbrev pub begun_view : made.BegunCheck → Begun
begun_view begun =
    record {
      version = begun.version;
      tapes = begun.tapes;
      stage = begun.stage;
      check = check_view begun.text;
    }

-- the check text that was begun, and these records end; where nothing was begun, they are all of it
abbrev pub place_left : Option Begun → ℕ → List Record → Result Check TextFault
place_left None i records = check_text_of records
place_left (Some begun) i records =
    stage_left begun.stage begun.version (length begun.check.history) begun.tapes begun.check i
    records

abbrev pub begun_left : made.BegunCheck → ℕ → List Record → Result Check TextFault
begun_left begun i records = place_left (Some (begun_view begun)) i records

-- what was begun, if anything was
abbrev pub begun_if_any : Option made.BegunCheck → Option Begun
begun_if_any None = None
begun_if_any (Some begun) = Some (begun_view begun)

abbrev pub left_of : Option made.BegunCheck → ℕ → List Record → Result Check TextFault
left_of begun i records = place_left (begun_if_any begun) i records

-- no more tapes were begun than there are, and there are marks of each process
pub record IsBegun (begun : made.BegunCheck) : Type 0 where
  pub few : begun.tapes ≤ length begun.text.history.processes
  pub whole : length begun.text.claim.marks.damaged ≡ length begun.text.history.processes

-- a record is no event of the tape that was begun last, while the tapes go on
abbrev pub IsBeyondTape : made.BegunCheck → Record → Type 0
IsBeyondTape begun r = begun.stage ≡ stages.Tapes → (begun.tapes ≡ 0) ⊎ (is_event r ≡ false)

-- what is read, unless there was a fault before
abbrev pub unless_fault : Option TextFault → Result Check TextFault → Result Check TextFault
unless_fault None read = read
unless_fault (Some fault) read = Err fault

-- what was read so far: what was begun, the number of the next record, and the fault, if there was
-- one
pub record CheckPlace : Type 0 where
  pub begun : Option Begun
  pub number : ℕ
  pub fault : Option TextFault

-- what a text spells that ends what was read so far
unfoldable pub text_left : CheckPlace → List ℕ → Result Check TextFault
text_left place text =
    records_in text >>= λ records. unless_fault place.fault
    (place_left place.begun place.number records)

-- whole lines stand before a text, or nothing does after them
abbrev pub EndsBefore : List ℕ → List ℕ → Type 0
EndsBefore text rest = (rest ≡ []) ⊎ EndsLine text
