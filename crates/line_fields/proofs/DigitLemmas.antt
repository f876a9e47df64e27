-- The table of digits says of each byte what its definition does.
use Rattle.std.specs.Prelude.{decimal}
use Rattle.std.proofs.lemmas.Fmt.{decimal_digit, decimal_step}
use Rattle.std.proofs.Common.{◌≡◌, ◌<◌, ◌≤◌, ◌+◌, ◌/◌, ◌%◌, ◌∙◌, ◌++◌, ◌∷◌, [], ℕ, List, ap}
use Rattle.std.proofs.Common.{append_assoc, ◌^◌, zero, suc, ◌-◌, ◌==◌, ◌&&◌, not, Bool, true, false}
use Rattle.std.proofs.Common.{Result, Ok, Err, refl, get_or, inl, inr, arith, eq-zero-or-pos}
use Rattle.std.proofs.Common.{ne_eqb}
use Rattle.std.specs.Prelude.{nat_le, if◌then◌else◌}
use Rattle.std.proofs.lemmas.Bool.{and_parts, eqb-true}
use Rattle.line_fields.specs.declared.faults.Fault.{Fault}
use Rattle.line_fields.specs.declared.faults.Fault.TheVariants.{BadNumber}
use Rattle.line_fields.specs.declared.fields.TheConstants.{VALUES}
use Rattle.line_fields.specs.Fields.{digit}
use Rattle.line_fields.specs.Writers.{two_digits}

-- what an entry of the table says
abbrev pub entry : ℕ → Result ℕ Fault
entry value = if value == 255 then Err BadNumber else Ok value

pub entry_none : (value : ℕ) → value ≡ 255 → Err BadNumber ≡ entry value
entry_none value last = rw last refl

pub entry_some : (value : ℕ) → (value ≡ 255 → ⊥) → Ok value ≡ entry value
entry_some value other = rw (ne_eqb value 255 other) refl

-- whether an entry says this
abbrev is_entry : Result ℕ Fault → ℕ → Bool
is_entry (Ok x) value = (x == value) && not (value == 255)
is_entry (Err fault) value = value == 255

not_last : (b : Bool) → not b ≡ true → b ≡ false
not_last true h = cc h
not_last false h = refl

says_digit : (x value : ℕ) → is_entry (Ok x) value ≡ true → Ok x ≡ entry value
says_digit x value h =
    let p = and_parts (x == value) (not (value == 255)) h in
    rw (eqb-true x value p.0, not_last (value == 255) p.1) refl

says_none : (value : ℕ) → (value == 255) ≡ true → Err BadNumber ≡ entry value
says_none value h = rw h refl

-- a choice of three digits and none, as an entry says it
says : (a b c : Bool) (x y z value : ℕ)
    → is_entry (if a then Ok x else if b then Ok y else if c then Ok z else Err BadNumber) value
    ≡ true
    → (if a then Ok x else if b then Ok y else if c then Ok z else Err BadNumber) ≡ entry value
says true b c x y z value h = says_digit x value h
says false true c x y z value h = says_digit y value h
says false false true x y z value h = says_digit z value h
says false false false x y z value h = says_none value h

-- the entries of all bytes below one say what their digits are
abbrev are_entries : ℕ → Bool
are_entries zero = true
are_entries (suc byte) = is_entry (digit byte) (get_or VALUES byte 0) && are_entries byte

entry_below : (n byte : ℕ) → are_entries n ≡ true → byte < n
    → is_entry (digit byte) (get_or VALUES byte 0) ≡ true
entry_below zero byte h lt = absurd (omega arith)
entry_below (suc n) byte h lt =
    let p = and_parts (is_entry (digit n) (get_or VALUES n 0)) (are_entries n) h in
    elim (eq-zero-or-pos (n - byte)) [
      | inl none ↦ let same : byte ≡ n = omega arith in rw same p.0
      | inr some ↦ entry_below n byte p.1 (omega arith)
    ]

pub digit_at : (byte : ℕ) → byte < 256 → digit byte ≡ entry (get_or VALUES byte 0)
digit_at byte lt =
    let told = entry_below 256 byte refl lt in
    says (nat_le 48 byte && nat_le byte 57) (nat_le 65 byte && nat_le byte 70)
    (nat_le 97 byte && nat_le byte 102) (byte - 48) (byte - 55) (byte - 87)
    (get_or VALUES byte 0) told

-- the digits of a number of two digits
pub decimal_pair : (n : ℕ) → 10 ≤ n → n < 100 → decimal n ≡ two_digits n
decimal_pair n low high =
    decimal_step n low (omega (arith, high)) ∙ ap (λ (ds : List ℕ). ds ++ (48 + n % 10) ∷ [])
    (decimal_digit (n / 10) (omega (arith, high)))

no_hundreds : (n : ℕ) → (n / 10) / 10 ≡ n / 100
no_hundreds n = omega arith

tens_of_hundred : (n : ℕ) → (n / 10) % 10 ≡ (n % 100) / 10
tens_of_hundred n = omega arith

units_of_hundred : (n : ℕ) → n % 10 ≡ (n % 100) % 10
units_of_hundred n = omega arith

-- the last two digits of a number of three or more
pub decimal_hundreds : (n : ℕ) → 100 ≤ n → n < 2 ^ 64
    → decimal n ≡ decimal (n / 100) ++ two_digits (n % 100)
decimal_hundreds n low high =
    decimal_step n (omega (arith, low)) high
    ∙ ap (λ (ds : List ℕ). ds ++ (48 + n % 10) ∷ [])
    (decimal_step (n / 10) (omega (arith, low)) (omega (arith, high)))
    ∙ append_assoc (decimal ((n / 10) / 10)) ((48 + (n / 10) % 10) ∷ []) ((48 + n % 10) ∷ [])
    ∙ rw (no_hundreds n, tens_of_hundred n, units_of_hundred n) refl

myriads : (n : ℕ) → (n / 100) / 100 ≡ n / 10000
myriads n = omega arith

-- the last four digits of a number of five or more
pub decimal_myriads : (n : ℕ) → 10000 ≤ n → n < 2 ^ 64
    → decimal n ≡ decimal (n / 10000) ++ (two_digits (n / 100 % 100) ++ two_digits (n % 100))
decimal_myriads n low high =
    decimal_hundreds n (omega (arith, low)) high
    ∙ ap (λ (ds : List ℕ). ds ++ two_digits (n % 100))
    (decimal_hundreds (n / 100) (omega (arith, low)) (omega (arith, high)))
    ∙ append_assoc (decimal ((n / 100) / 100)) (two_digits (n / 100 % 100)) (two_digits (n % 100))
    ∙ ap (λ (m : ℕ). decimal m ++ (two_digits (n / 100 % 100) ++ two_digits (n % 100))) (myriads n)
