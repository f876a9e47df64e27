-- What a verdict on a claim says: the first thing that is wrong with it.
use Rattle.std.specs.Prelude.{◌≡◌, ◌≢◌, ℕ, Bool, List, take, slice_get, Option, Some, None}
use Rattle.line_names.specs.declared.certificates.Passed.{Passed}
use Rattle.line_names.specs.declared.choices.Choice.{Choice}
use Rattle.line_names.specs.Lines.{choice_at}
use Rattle.line_tape.specs.Chain.{IsLed}
use Rattle.line_tape.specs.History.{Process}
use Rattle.line_tape.specs.Line.{IsSentBefore, IsReceivedBefore, IsConsistent}
use Rattle.line_tape.specs.Views.{MarksView}
use Rattle.line_check.specs.declared.faults.FaultCode.{FaultCode}
use Rattle.line_check.specs.declared.faults.FaultCode.TheVariants.{NotTop, NotReceived, NotOrphan}
use Rattle.line_check.specs.declared.faults.FaultCode.TheVariants.{LineDiffers, NotConsistent}
use Rattle.line_check.specs.declared.faults.FaultCode.TheVariants.{BadShape}
use Rattle.line_check.specs.Shape.{HasShape}

-- what is wrong with an entry at the present ceilings
pub data IsEntryFault (history : List Process) (ceilings : List Choice) (entry : Passed)
    : FaultCode → Type 0 where
  -- its choice is not that of its process
  not_top : entry.choice ≢ choice_at ceilings entry.at
      → IsEntryFault history ceilings entry NotTop
  -- its choice is that of its process, and its message is not received before it
  not_received : entry.choice ≡ choice_at ceilings entry.at
      → (IsReceivedBefore history ceilings entry.at entry.message → ⊥)
      → IsEntryFault history ceilings entry NotReceived
  -- its message is received before that choice, and sent before the ceiling of its sender
  not_orphan : entry.choice ≡ choice_at ceilings entry.at
      → IsReceivedBefore history ceilings entry.at entry.message
      → IsSentBefore history ceilings entry.message
      → IsEntryFault history ceilings entry NotOrphan

-- the first thing that is wrong with a claim: with one of its entries, counted from 0, or with none
pub data IsFirstFault (history : List Process) (marks : MarksView) (failed : List Bool)
    (entries : List Passed) (line : List Choice) : Option ℕ → FaultCode → Type 0 where
  -- it names what the history does not have
  misshapen : (HasShape history marks failed entries line → ⊥)
      → IsFirstFault history marks failed entries line None BadShape
  -- the entries before entry k are right, and it is wrong at the ceilings that they lead to
  wrong_entry : (k : ℕ) (entry : Passed) (ceilings : List Choice) (code : FaultCode)
      → HasShape history marks failed entries line
      → IsLed history marks failed (take k entries) ceilings
      → slice_get entries k ≡ Some entry
      → IsEntryFault history ceilings entry code
      → IsFirstFault history marks failed entries line (Some k) code
  -- all entries are right, and lead to another line
  other_line : (ceilings : List Choice)
      → HasShape history marks failed entries line
      → IsLed history marks failed entries ceilings
      → ceilings ≢ line
      → IsFirstFault history marks failed entries line None LineDiffers
  -- they lead to the line, and it is not consistent
  inconsistent : HasShape history marks failed entries line
      → IsLed history marks failed entries line
      → (IsConsistent history line → ⊥)
      → IsFirstFault history marks failed entries line None NotConsistent
