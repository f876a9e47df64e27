-- The text of a saved machine that is given whole, as a file has it.
use Rattle.std.specs.Prelude.{◌≡◌, ◌⊎◌, List, [], ◌∷◌, map, Result, Ok, Err, ⊤}
use Rattle.line_text.specs.declared.openings.OpenError.{OpenError}
use Rattle.line_text.specs.Openings.{IsUnopened, open_code}
use Rattle.line_claims.specs.declared.faults.TextError.TheVariants as text_errors
use Rattle.line_claims.specs.declared.faults.TextFault.{TextFault}
use Rattle.line_claims.specs.Reads.{fault_of_record, no_memory}
use Rattle.line_claims.specs.Saved.{SavedParts, saved_alone, saved_of}
use Rattle.line_claims.specs.SavedReadings.{saved_left}
use Rattle.line_text.specs.declared.outcomes.Outcome.{Outcome}
use Rattle.line_text.specs.declared.outcomes.Outcome.TheVariants as outcomes
use Rattle.line_text.specs.Rules.{Rules, error_code, fault_record}
use Rattle.line_fields.specs.declared.faults.Fault.{Fault}
use Rattle.line_fields.specs.declared.faults.Fault.TheVariants as faults
use Rattle.line_fields.specs.declared.faults.ReadError.{ReadError}
use Rattle.line_fields.specs.declared.faults.ReadError.TheVariants as errors
use Rattle.line_fields.specs.Records.{Record}
use Rattle.line_service.specs.declared.file_reads.FileRead.{FileRead}
use Rattle.line_service.specs.declared.file_reads.FileRead.TheVariants as reads

-- the record of a line; one that is none is read as a record without fields
abbrev pub record_or_none : Result Record Fault → Record
record_or_none (Ok r) = r
record_or_none (Err fault) = []

-- the machine that lines spell, after which nothing stands
abbrev pub saved_of_lines : List (Result Record Fault) → Result SavedParts TextFault
saved_of_lines lines = saved_alone (saved_of (map record_or_none lines))

-- what was read is refused: it has that fault, or what it spells is not opened, by a cause of that
-- number
abbrev pub IsUnopenedText : Result SavedParts TextFault → TextFault → Type 0
IsUnopenedText read fault =
    (read ≡ Err fault)
    ⊎ ((parts : SavedParts) × (read ≡ Ok parts)
    × ((cause : OpenError) × IsUnopened parts cause × (fault.code ≡ open_code cause)))

-- what is spelled by what was read, and these lines after it
abbrev pub spelt_with : FileRead → List (Result Record Fault) → Result SavedParts TextFault
spelt_with reads.Nothing lines = saved_of_lines lines
spelt_with (reads.Text text) lines =
    saved_alone (saved_left text.reader text.number (map record_or_none lines))
spelt_with (reads.Stopped text_errors.OutOfMemory) lines = Err no_memory
spelt_with (reads.Stopped (text_errors.Fault fault)) lines = Err fault

-- lines were read that far: memory is out, or what was read spells what they do
abbrev pub IsReadOf : List (Result Record Fault) → FileRead → Type 0
IsReadOf lines read =
    (spelt_with read [] ≡ Err no_memory) ⊎ (saved_of_lines lines ≡ spelt_with read [])

-- what is told of a line: nothing, or why it was missed
pub data FileAnswer : Type 0 where
  Taken : FileAnswer
  Missed : ReadError → FileAnswer

-- the records of an answer
abbrev pub file_answer_records : FileAnswer → List Record
file_answer_records Taken = []
file_answer_records (Missed error) = fault_record (error_code error) ∷ []

-- the outcome of an answer
abbrev pub file_outcome : FileAnswer → Outcome
file_outcome Taken = outcomes.Done
file_outcome (Missed error) = outcomes.Faulted

-- a line is read, and the text spells what it did, unless memory is out
abbrev pub ReadsLine : FileRead → Result Record Fault → FileAnswer → FileRead → Type 0
ReadsLine old one answer (reads.Stopped text_errors.OutOfMemory) = ⊤
ReadsLine old one answer new =
    (rest : List (Result Record Fault)) → spelt_with old (one ∷ rest) ≡ spelt_with new rest

-- how the lines of a text are read
abbrev pub file_rules : Rules FileRead FileAnswer
file_rules = record {
  hears = ReadsLine;
  records = file_answer_records;
  outcome = file_outcome;
}

-- how far a text was read once a record of it was missed
abbrev pub missed_line : ReadError → FileRead → FileRead
missed_line error (reads.Stopped why) = reads.Stopped why
missed_line errors.OutOfMemory reads.Nothing = reads.Stopped text_errors.OutOfMemory
missed_line errors.OutOfMemory (reads.Text text) = reads.Stopped text_errors.OutOfMemory
missed_line (errors.Fault fault) reads.Nothing =
    reads.Stopped (text_errors.Fault (fault_of_record 1 faults.NoWorld))
missed_line (errors.Fault fault) (reads.Text text) =
    reads.Stopped (text_errors.Fault (fault_of_record text.number faults.BadRecord))
