-- What a service may answer to what is no record, and where memory is out. No contract that a
-- caller reads needs this.
use Rattle.std.specs.Prelude.{Err, Result, refl}
use Rattle.line_fields.specs.declared.faults.Fault.{Fault}
use Rattle.line_fields.specs.declared.faults.Fault.TheVariants.{BadRecord}
use Rattle.line_fields.specs.declared.faults.ReadError.TheVariants as errors
use Rattle.line_fields.specs.Records.{Record}
use Rattle.line_service.specs.Services.{Empty, Faulted, Has, Hears, Reads, ServiceState}
use Rattle.line_service.specs.Services.{without_text}

-- a line that is none, wherever the service is
pub fault_of_no_record : (old : ServiceState)
    → Hears old (Err BadRecord) (Faulted (errors.Fault BadRecord)) (without_text old)
fault_of_no_record Empty = (refl, refl)
fault_of_no_record (Reads place number) = (refl, refl)
fault_of_no_record (Has machine) = (refl, refl)

-- a record for which memory did not suffice
pub out_of_memory_any_time : (old : ServiceState) (one : Result Record Fault)
    → Hears old one (Faulted errors.OutOfMemory) (without_text old)
out_of_memory_any_time Empty one = (tt, refl)
out_of_memory_any_time (Reads place number) one = (tt, refl)
out_of_memory_any_time (Has machine) one = (tt, refl)
