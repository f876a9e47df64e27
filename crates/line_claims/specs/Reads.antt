-- What a call that reads answers, and at which record.
use Rattle.std.specs.Prelude.{◌≡◌, ◌<◌, ◌⊎◌, ℕ, Result, Ok, Err}
use Rattle.line_fields.specs.declared.faults.Fault.{Fault}
use Rattle.line_fields.specs.declared.faults.ReadError.{ReadError}
use Rattle.line_fields.specs.declared.faults.ReadError.TheVariants as memory
use Rattle.line_fields.specs.Faults.{code_of}
use Rattle.line_fields.specs.Fields.{Fails}
use Rattle.line_claims.specs.declared.faults.TextFault.{TextFault}
use Rattle.line_claims.specs.declared.faults.TextError.{TextError}
use Rattle.line_claims.specs.declared.faults.TextError.TheVariants as errors

-- a fault of a record
abbrev pub fault_of_record : ℕ → Fault → TextFault
fault_of_record i fault = record { record_number = i; code = code_of fault }

-- what a record reads, where a fault has the record's number
abbrev pub at_record : {A : Type 0} → ℕ → Result A Fault → Result A TextFault
at_record i (Ok x) = Ok x
at_record i (Err fault) = Err (fault_of_record i fault)

-- why the record with that number was not read
abbrev pub error_at : ℕ → ReadError → TextError
error_at i memory.OutOfMemory = errors.OutOfMemory
error_at i (memory.Fault fault) = errors.Fault (fault_of_record i fault)

-- a fault is the first one, unless memory ran out
abbrev pub FailsText : {A : Type 0} → TextError → Result A TextFault → Type 0
FailsText errors.OutOfMemory read = Unit {0}
FailsText (errors.Fault fault) read = read ≡ Err fault

-- an answer, seen as a value, is what was read
abbrev pub Yields : {A B : Type 0} → (A → B) → Result A TextError → Result B TextFault → Type 0
Yields seen (Ok x) read = read ≡ Ok (seen x)
Yields seen (Err e) read = FailsText e read

-- a step that was taken leaves what was read
abbrev pub Steps : {A : Type 0} → Result Unit ReadError → Result A Fault → A → Type 0
Steps (Ok done) read new = read ≡ Ok new
Steps (Err e) read new = Fails e read

-- out of memory, which is of no record
abbrev pub no_memory : TextFault
no_memory = record { record_number = 0; code = 0 }

-- what a caller is told of an error
abbrev pub fault_of_error : TextError → TextFault
fault_of_error errors.OutOfMemory = no_memory
fault_of_error (errors.Fault fault) = fault

-- what was read, seen as a value, or the first fault, unless memory ran out
abbrev pub Reads : {A B : Type 0} → (A → B) → Result A TextFault → Result B TextFault → Type 0
Reads seen (Ok x) read = read ≡ Ok (seen x)
Reads seen (Err fault) read = (fault ≡ no_memory) ⊎ (read ≡ Err fault)

-- the fault is one of the text, by its number
abbrev pub IsOfText : TextFault → Type 0
IsOfText fault = ((0 < fault.code) × (fault.code < 36)) ⊎ (fault.code ≡ 40)
