-- Records by their shape: how many fields stand after the name, and what each of them spells, read
-- from left to right.
use Rattle.std.specs.Prelude.{ℕ, ◌==◌, List, length, Result, Ok}
use Rattle.line_fields.specs.declared.faults.Fault.{Fault}
use Rattle.line_fields.specs.declared.faults.Fault.TheVariants as faults
use Rattle.line_fields.specs.Fields.{◌>>=◌, want}
use Rattle.line_fields.specs.Records.{Record, field}

-- what a field spells
abbrev pub Reader : Type 0 → Type 0
Reader A = List ℕ → Result A Fault

-- two fields; what comes next is asked of their values
unfoldable pub two : {A B C : Type 0} → Reader A → Reader B → (A → B → Result C Fault) → Record
    → Result C Fault
two first second next r = do
  long ← want (length r == 3) faults.BadRecord
  a ← first (field r 1)
  b ← second (field r 2)
  next a b

-- three fields
unfoldable pub three : {A B C D : Type 0} → Reader A → Reader B → Reader C
    → (A → B → C → Result D Fault) → Record → Result D Fault
three first second third next r = do
  long ← want (length r == 4) faults.BadRecord
  a ← first (field r 1)
  b ← second (field r 2)
  c ← third (field r 3)
  next a b c

-- four fields
unfoldable pub four : {A B C D E : Type 0} → Reader A → Reader B → Reader C → Reader D
    → (A → B → C → D → Result E Fault) → Record → Result E Fault
four first second third fourth next r = do
  long ← want (length r == 5) faults.BadRecord
  a ← first (field r 1)
  b ← second (field r 2)
  c ← third (field r 3)
  d ← fourth (field r 4)
  next a b c d

-- five fields
unfoldable pub five : {A B C D E F : Type 0} → Reader A → Reader B → Reader C → Reader D → Reader E
    → (A → B → C → D → E → Result F Fault) → Record → Result F Fault
five first second third fourth fifth next r = do
  long ← want (length r == 6) faults.BadRecord
  a ← first (field r 1)
  b ← second (field r 2)
  c ← third (field r 3)
  d ← fourth (field r 4)
  e ← fifth (field r 5)
  next a b c d e

-- a name and no field
unfoldable pub alone : {A : Type 0} → A → Record → Result A Fault
alone value r = want (length r == 1) faults.BadRecord >>= λ long. Ok value
