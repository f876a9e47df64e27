-- What may be answered to what is no record, and where memory is out. No contract that a caller
-- reads needs this.
use Rattle.std.specs.Prelude.{Err, None, Option, Result, Some, refl}
use Rattle.line_fields.specs.declared.faults.Fault.{Fault}
use Rattle.line_fields.specs.declared.faults.Fault.TheVariants.{BadRecord}
use Rattle.line_fields.specs.declared.faults.ReadError.TheVariants as errors
use Rattle.line_fields.specs.Records.{Record}
use Rattle.line_collect.specs.Collecting.{Faulted, HearsReport}
use Rattle.line_collect.specs.Lives.{LiveCollectionView}

-- a line that is none, whether collecting began or not
pub fault_of_no_report : (old : Option LiveCollectionView)
    → HearsReport old (Err BadRecord) (Faulted (errors.Fault BadRecord)) old
fault_of_no_report None = (refl, refl)
fault_of_no_report (Some collected) = (refl, refl)

-- a record for which memory did not suffice
pub out_of_memory_any_report : (old : Option LiveCollectionView) (one : Result Record Fault)
    → HearsReport old one (Faulted errors.OutOfMemory) old
out_of_memory_any_report None one = (tt, refl)
out_of_memory_any_report (Some collected) one = (tt, refl)
