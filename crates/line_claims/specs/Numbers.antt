-- The numbers of fields, in their ranges, and the processes and choices that they name.
use Rattle.std.specs.Prelude.{ℕ, List, [], ◌∷◌, nat_lt, Option, Some, None, Result, Ok}
use Rattle.std.specs.Prelude.{if◌then◌else◌, codes}
use Rattle.std.specs.Str.{bytes_eq}
use Rattle.line_names.specs.declared.choices.Choice.{Choice}
use Rattle.line_names.specs.declared.choices.Choice.TheVariants.{Check, Now}
use Rattle.line_fields.specs.declared.faults.Fault.{Fault}
use Rattle.line_fields.specs.declared.faults.Fault.TheVariants as faults
use Rattle.line_fields.specs.Fields.{◌>>=◌, want, num, hex}
use Rattle.line_fields.specs.Records.{Record}
use Rattle.line_tape.specs.declared.limits.TheConstants.{LAST_INCARNATION, LAST_ROUND}
use Rattle.line_claims.specs.declared.numbers.TheConstants.{MOST_NUMBER}

-- a number that has no range of its own
abbrev pub plain : List ℕ → Result ℕ Fault
plain text = num 0 MOST_NUMBER text

-- an incarnation
abbrev pub incarnation : List ℕ → Result ℕ Fault
incarnation text = num 0 LAST_INCARNATION text

-- a round, from 1 on
abbrev pub round : List ℕ → Result ℕ Fault
round text = num 1 LAST_ROUND text

-- what stands where there is nothing
abbrev pub none_text : List ℕ
none_text = codes "-"

-- a round, or none
abbrev pub round_or_none : List ℕ → Result (Option ℕ) Fault
round_or_none text = if bytes_eq text none_text then Ok None else (round text >>= λ r. Ok (Some r))

-- a state, or none
abbrev pub state_or_none : List ℕ → Result (Option (List ℕ)) Fault
state_or_none text =
    if bytes_eq text none_text then Ok None else (hex text >>= λ state. Ok (Some state))

-- the word for where a process stands now
abbrev pub now_text : List ℕ
now_text = codes "now"

-- a choice: the number of a check, or now
abbrev pub choice : List ℕ → Result Choice Fault
choice text = if bytes_eq text now_text then Ok Now else (plain text >>= λ check. Ok (Check check))

-- the process of that number, among n
abbrev pub process : ℕ → ℕ → Result ℕ Fault
process n p = want (nat_lt p n) faults.NoSuchProcess >>= λ there. Ok p

-- the numbers of fields, from left to right
unfoldable pub numbers : Record → Result (List ℕ) Fault
numbers [] = Ok []
numbers (first ∷ others) = do
  n ← plain first
  ns ← numbers others
  Ok (n ∷ ns)

-- the choices of fields, from left to right
unfoldable pub choices : Record → Result (List Choice) Fault
choices [] = Ok []
choices (first ∷ others) = do
  one ← choice first
  more ← choices others
  Ok (one ∷ more)
