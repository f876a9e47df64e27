-- What digits that are read many at once stand for.
use Rattle.std.specs.Prelude.{ℕ, List, ◌++◌, Result, Ok, Err}
use Rattle.line_fields.specs.declared.faults.Fault.{Fault}
use Rattle.line_fields.specs.Fields.{◌>>=◌, digit}

-- what was read before, and what is still read
abbrev pub with_front : {A : Type 0} → List A → Result (List A) Fault → Result (List A) Fault
with_front front read = read >>= λ x. Ok (front ++ x)

-- what a digit stands for, or 255
abbrev pub or_none : Result ℕ Fault → ℕ
or_none (Ok value) = value
or_none (Err fault) = 255

-- what a byte stands for as a hexadecimal digit, or 255
abbrev pub value_or_none : ℕ → ℕ
value_or_none byte = or_none (digit byte)
