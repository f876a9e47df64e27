-- What the fields of a record spell, and the first fault where they spell nothing.
use Rattle.std.specs.Prelude.{◌≡◌, ℕ, ◌+◌, ◌-◌, ◌*◌, nat_le, ◌==◌, ◌&&◌, Bool, true, false, not}
use Rattle.std.specs.Prelude.{List, [], ◌∷◌, length, Result, Ok, Err, if◌then◌else◌}
use Rattle.std.specs.Str.{all_ascii_digits}
use Rattle.std.specs.Str.Parse.{digits_value}
use Rattle.line_fields.specs.declared.faults.Fault.{Fault}
use Rattle.line_fields.specs.declared.faults.Fault.TheVariants.{BadNumber}
use Rattle.line_fields.specs.declared.faults.ReadError.{ReadError}
use Rattle.line_fields.specs.declared.faults.ReadError.TheVariants as errors

-- what comes next, where there is no fault before it; a `do` block is a chain of these
infixl 10 ◌>>=◌
abbrev pub ◌>>=◌ : {A B F : Type 0} → Result A F → (A → Result B F) → Result B F
(Ok x) >>= next = next x
(Err fault) >>= next = Err fault

-- a fault unless a test holds
abbrev pub want : {F : Type 0} → Bool → F → Result Unit F
want true fault = Ok tt
want false fault = Err fault

-- a number in a range: one digit or more, leading zeros among them
unfoldable pub num : ℕ → ℕ → List ℕ → Result ℕ Fault
num least most text =
    if not (length text == 0)
    && all_ascii_digits text
    && nat_le least (digits_value 10 text)
    && nat_le (digits_value 10 text) most
    then Ok (digits_value 10 text)
    else Err BadNumber

-- one hexadecimal digit, of either case
abbrev pub digit : ℕ → Result ℕ Fault
digit byte =
    if nat_le 48 byte && nat_le byte 57 then Ok (byte - 48)
    else if nat_le 65 byte && nat_le byte 70 then Ok (byte - 55)
    else if nat_le 97 byte && nat_le byte 102 then Ok (byte - 87)
    else Err BadNumber

-- bytes: two hexadecimal digits for each
unfoldable pub hex : List ℕ → Result (List ℕ) Fault
hex [] = Ok []
hex (odd ∷ []) = Err BadNumber
hex (first ∷ second ∷ rest) = do
  high ← digit first
  low ← digit second
  others ← hex rest
  Ok ((16 * high + low) ∷ others)

-- what a call refused is the fault of what it read, unless memory ran out
abbrev pub Fails : {A : Type 0} → ReadError → Result A Fault → Type 0
Fails errors.OutOfMemory read = Unit {0}
Fails (errors.Fault fault) read = read ≡ Err fault

-- what a call answered, seen as a value, is what it read, unless memory ran out
abbrev pub Gives : {A B : Type 0} → (A → B) → Result A ReadError → Result B Fault → Type 0
Gives seen (Ok x) read = read ≡ Ok (seen x)
Gives seen (Err e) read = Fails e read
