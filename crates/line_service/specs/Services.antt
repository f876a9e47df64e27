-- What a service answers to the records that it hears.
use Rattle.std.specs.Prelude.{◌≡◌, ◌+◌, ◌⊎◌, ℕ, List, [], ◌∷◌, length, map, Option, Some, None}
use Rattle.std.specs.Prelude.{Result, Ok, codes, if◌then◌else◌, false, true}
use Rattle.std.specs.Prelude.{◌++◌, ◌-◌, replicate}
use Rattle.line_text.specs.Answers.{CommandAnswer, Tells, TellsAll, is_refused}
use Rattle.line_text.specs.Answers.{command_answer_records}
use Rattle.line_text.specs.Openings.{IsUnopened, open_fault, opened}
use Rattle.line_text.specs.declared.openings.OpenError.{OpenError}
use Rattle.line_claims.specs.declared.faults.TextError.{TextError}
use Rattle.line_claims.specs.declared.faults.TextError.TheVariants as text_errors
use Rattle.line_claims.specs.Parts.{is_named}
use Rattle.line_claims.specs.Reads.{FailsText}
use Rattle.line_claims.specs.Saved.{SavedParts, saved_of}
use Rattle.line_claims.specs.SavedReadings.{SavedPlace, is_whole, saved_left}
use Rattle.line_text.specs.declared.outcomes.Outcome.{Outcome}
use Rattle.line_text.specs.declared.outcomes.Outcome.TheVariants as outcomes
use Rattle.line_text.specs.Rules.{Rules, error_code, fault_record}
use Rattle.line_fields.specs.declared.faults.Fault.{Fault}
use Rattle.line_fields.specs.declared.faults.ReadError.{ReadError}
use Rattle.line_fields.specs.Fields.{◌>>=◌, Fails}
use Rattle.line_fields.specs.Records.{Record}
use Rattle.line_tape.specs.declared.modes.Mode.{Mode}
use Rattle.line_scripts.specs.declared.commands.Command.{Command}
use Rattle.line_scripts.specs.RunScripts.{RunScript}
use Rattle.line_scripts.specs.Scripts.{Script, command_in, world_of}
use Rattle.line_live.specs.Lives.{LiveMachine, start_live}

-- where a service is: no record was good yet; of the text of a saved machine the first records were
-- taken, and the next one has that number; or there is a machine
pub data ServiceState : Type 0 where
  Empty : ServiceState
  Reads : SavedPlace → ℕ → ServiceState
  Has : LiveMachine → ServiceState

-- what a record is answered: a machine began, or the text of a saved one began or went on; it was
-- not done, since it has a fault or memory is out; it was not, and what was taken of a saved
-- machine is dropped; or its command was told something
pub data ServiceAnswer : Type 0 where
  Began : ServiceAnswer
  Faulted : ReadError → ServiceAnswer
  Dropped : TextError → ServiceAnswer
  Replied : CommandAnswer → ServiceAnswer

-- the number of the fault of a text; 0 where memory ran out
abbrev pub text_error_code : TextError → ℕ
text_error_code text_errors.OutOfMemory = 0
text_error_code (text_errors.Fault fault) = fault.code

-- the records of an answer
abbrev pub service_answer_records : ServiceAnswer → List Record
service_answer_records Began = []
service_answer_records (Faulted error) = fault_record (error_code error) ∷ []
service_answer_records (Dropped error) = fault_record (text_error_code error) ∷ []
service_answer_records (Replied told) = command_answer_records told

-- the outcome of an answer
abbrev pub outcome_of : ServiceAnswer → Outcome
outcome_of Began = outcomes.Done
outcome_of (Faulted error) = outcomes.Faulted
outcome_of (Dropped error) = outcomes.Faulted
outcome_of (Replied told) = if is_refused told then outcomes.Refused else outcomes.Done

-- the processes and links that a first record begins, none where it is the first of a saved machine
abbrev pub start_in : Record → Result (Option (ℕ × Mode)) Fault
start_in r =
    if is_named (codes "history") r then Ok None
    else (world_of r >>= λ world. Ok (Some world))

-- the text of a saved machine begins with that record, and leads there
pub record IsTextBegun (one : Result Record Fault) (new : ServiceState) : Type 0 where
  pub first : Record
  pub is : one ≡ Ok first
  pub named : is_named (codes "history") first ≡ true
  pub place : SavedPlace
  pub begun : (rest : List Record) → saved_of (first ∷ rest) ≡ saved_left place 2 rest
  pub unended : is_whole place ≡ false
  pub new_is : new ≡ Reads place 2

-- a good first record leads there
abbrev pub BeginsBy : Option (ℕ × Mode) → Result Record Fault → ServiceState → Type 0
BeginsBy (Some world) one new = new ≡ Has (start_live world.0 world.1)
BeginsBy None one new = IsTextBegun one new

-- the text of a saved machine does not begin with that record, which has this fault
pub record IsTextRefused (one : Result Record Fault) (error : TextError) : Type 0 where
  pub first : Record
  pub is : one ≡ Ok first
  pub named : is_named (codes "history") first ≡ true
  pub fails : (rest : List Record) → FailsText error (saved_of (first ∷ rest))

-- before a record was good, one may be answered so
abbrev pub Begins : Result Record Fault → ServiceAnswer → ServiceState → Type 0
Begins one Began new = (start : Option (ℕ × Mode)) × ((one >>= start_in) ≡ Ok start)
    × BeginsBy start one new
Begins one (Faulted error) new = Fails error (one >>= start_in) × (new ≡ Empty)
Begins one (Dropped error) new = IsTextRefused one error × (new ≡ Empty)
Begins one (Replied told) new = ⊥

-- the record is the last one of the text, which spells that
abbrev pub EndsText : SavedPlace → ℕ → Record → SavedParts → Type 0
EndsText place number r parts =
    (rest : List Record) → saved_left place number (r ∷ rest)
    ≡ Ok (record { value = parts; number = number + 1; left = rest })

-- the text goes on by the record: there is more to come, or it was the last one, and the machine
-- that was saved is opened
abbrev pub GoesOn : SavedPlace → ℕ → Record → ServiceState → Type 0
GoesOn place number r Empty = ⊥
GoesOn place number r (Reads next later) = (later ≡ number + 1) × (is_whole next ≡ false)
    × ((rest : List Record) → saved_left place number (r ∷ rest) ≡ saved_left next later rest)
GoesOn place number r (Has live) =
    (parts : SavedParts) × EndsText place number r parts × (live ≡ opened parts)

-- the record is the last one of the text, which spells what is not opened
pub record IsUnopenedBy (place : SavedPlace) (number : ℕ) (r : Record) (error : TextError)
    : Type 0 where
  pub parts : SavedParts
  pub ends : EndsText place number r parts
  pub cause : OpenError
  pub unopened : IsUnopened parts cause
  pub error_is : error ≡ open_fault number cause

-- the text is dropped, since the record has this fault, or what the text spells is not opened
abbrev pub IsTextDropped : SavedPlace → ℕ → Record → TextError → Type 0
IsTextDropped place number r error =
    ((rest : List Record) → FailsText error (saved_left place number (r ∷ rest)))
    ⊎ IsUnopenedBy place number r error

-- where a service is once nothing is left of the text of a saved machine
abbrev pub without_text : ServiceState → ServiceState
without_text Empty = Empty
without_text (Reads place number) = Empty
without_text (Has machine) = Has machine

-- while the text of a saved machine is read, a record may be answered so
abbrev pub GoesOnBy : SavedPlace → ℕ → Result Record Fault → ServiceAnswer → ServiceState → Type 0
GoesOnBy place number one Began new = (r : Record) × (one ≡ Ok r) × GoesOn place number r new
GoesOnBy place number one (Faulted error) new = Fails error one × (new ≡ Empty)
GoesOnBy place number one (Dropped error) new =
    (r : Record) × (one ≡ Ok r) × IsTextDropped place number r error × (new ≡ Empty)
GoesOnBy place number one (Replied told) new = ⊥

-- with a machine, a record may be answered so
abbrev pub Obeys : LiveMachine → Result Command Fault → ServiceAnswer → ServiceState → Type 0
Obeys old read Began new = ⊥
Obeys old read (Faulted error) new = Fails error read × (new ≡ Has old)
Obeys old read (Dropped error) new = ⊥
Obeys old read (Replied told) new = (command : Command) × (read ≡ Ok command)
    × (later : LiveMachine) × Tells old command told later × (new ≡ Has later)

-- a record, or the fault of a line that is none, may be answered so, and leaves new
abbrev pub Hears : ServiceState → Result Record Fault → ServiceAnswer → ServiceState → Type 0
Hears Empty one answer new = Begins one answer new
Hears (Reads place number) one answer new = GoesOnBy place number one answer new
Hears (Has machine) one answer new =
    Obeys machine (one >>= command_in (length machine.kept.history)) answer new

-- how a service answers: it has a machine once a first record was good, or once a saved machine was
-- read whole
abbrev pub service_rules : Rules ServiceState ServiceAnswer
service_rules = record {
  hears = Hears;
  records = service_answer_records;
  outcome = outcome_of;
}

-- the machine of a script runs its commands, and what they are told are the answers after that to
-- its first record
pub record IsRunOf (script : Script) (answers : List ServiceAnswer) (new : ServiceState)
    : Type 0 where
  pub told : List CommandAnswer
  pub end : LiveMachine
  pub run : TellsAll (start_live script.n script.mode) script.commands told end
  pub answers_are : answers ≡ Began ∷ map Replied told
  pub new_is : new ≡ Has end

-- the machine that was saved runs the commands of a script that begins with it: each record of the
-- saved machine is answered as one that begins, and what the commands are told are the answers
-- after that
pub record IsSavedRunOf (parts : SavedParts) (script : RunScript) (answers : List ServiceAnswer)
    (new : ServiceState) : Type 0 where
  pub told : List CommandAnswer
  pub end : LiveMachine
  pub run : TellsAll (opened parts) script.commands told end
  pub answers_are : answers ≡ replicate (script.first - 1) Began ++ map Replied told
  pub new_is : new ≡ Has end
