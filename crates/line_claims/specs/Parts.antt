-- The parts that a text is made of: one record with a name, or any number of records of a kind.
use Rattle.std.specs.Prelude.{ℕ, zero, suc, ◌+◌, Bool, false, List, [], ◌∷◌, drop, slice_index_or}
use Rattle.std.specs.Prelude.{Result, Ok, if◌then◌else◌}
use Rattle.std.specs.Str.{bytes_eq}
use Rattle.line_fields.specs.declared.faults.Fault.{Fault}
use Rattle.line_fields.specs.declared.faults.Fault.TheVariants as faults
use Rattle.line_fields.specs.Fields.{◌>>=◌, want}
use Rattle.line_fields.specs.Records.{Record, field}
use Rattle.line_claims.specs.declared.faults.TextFault.{TextFault}
use Rattle.line_claims.specs.Reads.{at_record}

-- what a part spells, the number of the record after it, and that record with those after it
pub record Part (A : Type 0) : Type 0 where
  pub value : A
  pub number : ℕ
  pub left : List Record

-- the first field of a record is that name
abbrev pub is_named : List ℕ → Record → Bool
is_named name r = bytes_eq (field r 0) name

-- the record that stands next, and past the last an empty one
abbrev pub first : List Record → Record
first records = slice_index_or records 0 []

-- a record of that kind stands next
abbrev pub begins : (Record → Bool) → List Record → Bool
begins is [] = false
begins is (r ∷ rest) = is r

-- one record with that name, the i-th of the text
unfoldable pub one : {A : Type 0} → List ℕ → (Record → Result A Fault) → ℕ → List Record
    → Result (Part A) TextFault
one name read i records = do
  x ← at_record i
      (want (begins (is_named name) records) faults.BadRecord >>= λ it. read (first records))
  Ok (record { value = x; number = i + 1; left = drop 1 records })

-- so many records with that name, from the i-th on, each read after those before it
unfoldable pub several : {A : Type 0} → List ℕ → (A → Record → Result A Fault) → ℕ → A → ℕ
    → List Record → Result (Part A) TextFault
several name read zero before i records =
    Ok (record { value = before; number = i; left = records })
several name read (suc others) before i records = do
  more ← one name (read before) i records
  several name read others more.value more.number more.left

-- all records of a kind up to the first of another, from the i-th on, each read after those before
-- it
unfoldable pub many : {A : Type 0} → (Record → Bool) → (A → Record → Result A Fault) → A → ℕ
    → List Record → Result (Part A) TextFault
many is read before i [] = Ok (record { value = before; number = i; left = [] })
many is read before i (r ∷ rest) =
    if is r then (at_record i (read before r) >>= λ more. many is read more (i + 1) rest)
    else Ok (record { value = before; number = i; left = r ∷ rest })
