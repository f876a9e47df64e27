-- The whole text of a saved machine.
use Rattle.std.proofs.Common.{◌≡◌, ℕ, List, [], Ok, Err, refl}
use Rattle.line_fields.specs.declared.faults.Fault.TheVariants as faults
use Rattle.line_fields.specs.Records.{Record}
use Rattle.line_claims.specs.Reads.{fault_of_record}
use Rattle.line_claims.specs.Saved.{saved_of, saved_of_text}
use Rattle.line_claims.specs.Texts.{records_in}

-- it has no records
pub nothing_saved : (text : List ℕ) (records : List Record) → records_in text ≡ Ok records
    → records ≡ [] → saved_of_text text ≡ Err (fault_of_record 1 faults.NoWorld)
unfolding saved_of
nothing_saved text records is none = rw (is, none) refl
