-- Which history, claim or both a text spells, and its first fault where it spells none.
use Rattle.std.specs.Prelude.{ℕ, List, Result, Ok, Err, if◌then◌else◌}
use Rattle.line_fields.specs.declared.faults.Fault.TheVariants as faults
use Rattle.line_fields.specs.Bytes.{is_input_text}
use Rattle.line_fields.specs.Fields.{◌>>=◌, want}
use Rattle.line_fields.specs.Records.{Record, records_of_text}
use Rattle.line_tape.specs.History.{Process}
use Rattle.line_claims.specs.declared.faults.TextFault.{TextFault}
use Rattle.line_claims.specs.declared.texts.CheckText as made
use Rattle.line_claims.specs.Claims.{Claim, claim_from, is_none, claim_view}
use Rattle.line_claims.specs.Histories.{floors_of, front_of, head_in}
use Rattle.line_claims.specs.Reads.{fault_of_record, at_record}

-- the records of a text, where it has no byte that no text has
abbrev pub records_in : List ℕ → Result (List Record) TextFault
records_in text =
    if is_input_text text
    then Ok (records_of_text text) else Err (fault_of_record 0 faults.BadRecord)

-- a history: a front with nothing after it
unfoldable pub history_of : List Record → Result (List Process) TextFault
history_of records = do
  head ← head_in records
  floors ← floors_of head.0 head.1 records
  front ← front_of head.1 floors.number floors.left
  ended ← at_record front.number (want (is_none front.left) faults.BadRecord)
  Ok front.value

-- a claim of a version among n processes
unfoldable pub certificate_of : ℕ → ℕ → List Record → Result Claim TextFault
certificate_of version n records = claim_from version n 1 records

-- a history, what was let go of each process before it, and a claim on it
pub record Check : Type 0 where
  pub history : List Process
  pub floors : List (ℕ × ℕ)
  pub claim : Claim

-- all as lists
abbrev pub check_view : made.CheckText → Check
check_view text =
    record {
      history = text.history.processes;
      floors = text.floors.items;
      claim = claim_view text.claim;
    }

-- a history and a claim on it: a front with a claim after it
unfoldable pub check_text_of : List Record → Result Check TextFault
check_text_of records = do
  head ← head_in records
  floors ← floors_of head.0 head.1 records
  front ← front_of head.1 floors.number floors.left
  claim ← claim_from head.0 head.1 front.number front.left
  Ok (record { history = front.value; floors = floors.value; claim = claim })

-- the history that a text spells
abbrev pub history_of_text : List ℕ → Result (List Process) TextFault
history_of_text text = records_in text >>= history_of

-- the claim of a version that a text spells, among n processes
abbrev pub certificate_of_text : ℕ → ℕ → List ℕ → Result Claim TextFault
certificate_of_text version n text = records_in text >>= certificate_of version n

-- the history and the claim on it that a text spells
abbrev pub check_of_text : List ℕ → Result Check TextFault
check_of_text text = records_in text >>= check_text_of
