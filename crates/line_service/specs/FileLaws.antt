-- What is read of a text of which a record was missed. No contract that a caller reads needs this.
use Rattle.std.specs.Prelude.{◌≡◌, ℕ, zero, suc, ◌-◌, List, [], ◌∷◌, length, map, codes, Result}
use Rattle.std.specs.Prelude.{Err, refl}
use Rattle.std.proofs.Common.{ap}
use Rattle.line_claims.specs.declared.faults.TextError.TheVariants as text_errors
use Rattle.line_claims.specs.declared.faults.TextFault.{TextFault}
use Rattle.line_claims.specs.declared.saved_readers.SavedStage.{SavedStage}
use Rattle.line_claims.specs.declared.saved_readers.SavedStage.TheVariants as stages
use Rattle.line_claims.specs.Histories.{one_floor_more, tape_from, tapes_from}
use Rattle.line_claims.specs.Parts.{Part, many, one, several}
use Rattle.line_claims.specs.Reads.{fault_of_record}
use Rattle.line_claims.specs.Saved.{SavedParts, saved_alone, saved_of}
use Rattle.line_claims.specs.SavedReadings.{damaged_left, part_left, taped_left}
use Rattle.line_fields.specs.declared.faults.Fault.{Fault}
use Rattle.line_fields.specs.declared.faults.Fault.TheVariants as faults
use Rattle.line_fields.specs.declared.faults.ReadError.TheVariants as errors
use Rattle.line_fields.specs.Fields.{◌>>=◌}
use Rattle.line_fields.specs.Records.{Record}
use Rattle.line_tape.specs.History.{Process}
use Rattle.line_service.specs.declared.file_reads.FileRead.{FileRead}
use Rattle.line_service.specs.declared.file_reads.FileRead.TheVariants as reads
use Rattle.line_service.specs.Files.{missed_line, record_or_none, Missed, ReadsLine}

-- ---- a record without fields is none of a saved machine

-- its fault, where it is the i-th
abbrev unnamed : {A : Type 0} → ℕ → Result A TextFault
unnamed i = Err (fault_of_record i faults.BadRecord)

first_unnamed : (rest : List Record)
    → saved_alone (saved_of ([] ∷ rest)) ≡ Err (fault_of_record 1 faults.NoWorld)
unfolding saved_of
first_unnamed rest = refl

damage_unnamed : (n : ℕ) (parts : SavedParts) (i : ℕ) (rest : List Record)
    → damaged_left n parts i ([] ∷ rest) ≡ unnamed i
unfolding many one
damage_unnamed n parts i rest = refl

-- what the text spells after its tapes
abbrev after_tapes : ℕ → SavedParts → Part (List Process) → Result (Part SavedParts) TextFault
after_tapes n parts front =
    damaged_left n (record parts { history = front.value }) front.number front.left

tapes_unnamed : (n p k : ℕ) (parts : SavedParts) (i : ℕ) (rest : List Record)
    → (tapes_from p k parts.history i ([] ∷ rest) >>= after_tapes n parts) ≡ unnamed i
unfolding tapes_from tape_from many one
tapes_unnamed n p zero parts i rest = refl
tapes_unnamed n p (suc others) parts i rest = refl

taped_unnamed : (n tapes : ℕ) (parts : SavedParts) (i : ℕ) (rest : List Record)
    → taped_left n tapes parts i ([] ∷ rest) ≡ unnamed i
unfolding many
taped_unnamed n zero parts i rest = tapes_unnamed n 0 (n - 0) parts i rest
taped_unnamed n (suc p) parts i rest = tapes_unnamed n (suc p) (n - suc p) parts i rest

-- what the text spells after what was let go
abbrev after_floors : ℕ → SavedParts → Part (List (ℕ × ℕ)) → Result (Part SavedParts) TextFault
after_floors n parts floors =
    taped_left n 0 (record parts { floors = floors.value }) floors.number floors.left

floors_unnamed : (n k : ℕ) (parts : SavedParts) (i : ℕ) (rest : List Record)
    → (several (codes "floor") one_floor_more k parts.floors i ([] ∷ rest)
    >>= after_floors n parts) ≡ unnamed i
unfolding several one
floors_unnamed n zero parts i rest = taped_unnamed n 0 parts i rest
floors_unnamed n (suc others) parts i rest = refl

part_unnamed : (stage : SavedStage) (n tapes : ℕ) (parts : SavedParts) (i : ℕ) (rest : List Record)
    → saved_alone (part_left stage n tapes parts i ([] ∷ rest)) ≡ unnamed i
unfolding many one
part_unnamed stages.Floors n tapes parts i rest =
    ap saved_alone (floors_unnamed n (n - length parts.floors) parts i rest)
part_unnamed stages.Tapes n tapes parts i rest =
    ap saved_alone (taped_unnamed n tapes parts i rest)
part_unnamed stages.Damage n tapes parts i rest = ap saved_alone (damage_unnamed n parts i rest)
part_unnamed stages.Bars n tapes parts i rest = refl
part_unnamed stages.Rounds n tapes parts i rest = refl
part_unnamed stages.Nothing n tapes parts i rest = refl

-- ---- a record that was missed

-- its line is none
pub no_record_in_file : (old : FileRead)
    → ReadsLine old (Err faults.BadRecord) (Missed (errors.Fault faults.BadRecord))
    (missed_line (errors.Fault faults.BadRecord) old)
no_record_in_file reads.Nothing = λ rest. first_unnamed (map record_or_none rest)
no_record_in_file (reads.Text text) = λ rest.
    part_unnamed text.reader.stage (length text.reader.parts.history) text.reader.tapes
    text.reader.parts text.number (map record_or_none rest)
no_record_in_file (reads.Stopped text_errors.OutOfMemory) = tt
no_record_in_file (reads.Stopped (text_errors.Fault fault)) = λ rest. refl

-- memory was out for it
pub out_of_memory_in_file : (old : FileRead) (one : Result Record Fault)
    → ReadsLine old one (Missed errors.OutOfMemory) (missed_line errors.OutOfMemory old)
out_of_memory_in_file reads.Nothing one = tt
out_of_memory_in_file (reads.Text text) one = tt
out_of_memory_in_file (reads.Stopped text_errors.OutOfMemory) one = tt
out_of_memory_in_file (reads.Stopped (text_errors.Fault fault)) one = λ rest. refl
