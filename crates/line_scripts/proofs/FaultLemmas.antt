-- A fault of a script is one that scripts have.
use Rattle.std.proofs.Common.{◌≡◌, ◌<◌, ◌⊎◌, inl, inr, ℕ, ◌+◌, List, [], ◌∷◌, drop, length, Some}
use Rattle.std.proofs.Common.{None, Result, Ok, Err, true, false, subst, arith}
use Rattle.std.specs.Prelude.{Bool, IfErr, codes, if◌then◌else◌, nat_le, ◌&&◌, ◌==◌, not, ◌-◌}
use Rattle.std.specs.Str.{all_ascii_digits, bytes_eq}
use Rattle.std.specs.Str.Parse.{digits_value}
use Rattle.line_fields.specs.declared.faults.Fault.{Fault}
use Rattle.line_fields.specs.declared.faults.Fault.TheVariants as faults
use Rattle.line_fields.specs.Faults.{code_of}
use Rattle.line_fields.specs.Fields.{◌>>=◌, digit, hex, num, want}
use Rattle.line_fields.specs.Bytes.{is_input_text}
use Rattle.line_fields.specs.Records.{Record, field, records_of_text}
use Rattle.line_fields.specs.Shapes.{Reader, alone, four, three, two}
use Rattle.line_tape.specs.declared.modes.Mode.TheVariants.{Fifo, Unordered}
use Rattle.line_tape.specs.declared.steps.Step.{Step}
use Rattle.line_tape.specs.declared.steps.Step.TheVariants.{Begin, Check, Damage, Bar, Recover}
use Rattle.line_tape.specs.declared.steps.Step.TheVariants.{Turn}
use Rattle.line_claims.specs.declared.faults.TextFault.{TextFault}
use Rattle.line_claims.specs.declared.versions.TheConstants.{LAST_VERSION}
use Rattle.line_claims.specs.Numbers.{numbers, plain, round}
use Rattle.line_claims.specs.Reads.{Reads, at_record, fault_of_record, no_memory}
use Rattle.line_claims.specs.Versions.{most_in}
use Rattle.line_scripts.specs.declared.commands.Command.{Command}
use Rattle.line_scripts.specs.declared.commands.Command.TheVariants.{Answer, Bundle, Do, Forget}
use Rattle.line_scripts.specs.declared.commands.Command.TheVariants.{History, Live, Plan, Rounds}
use Rattle.line_scripts.specs.declared.commands.Command.TheVariants.{Save}
use Rattle.line_scripts.specs.Reads.{IsOfScript}
use Rattle.line_scripts.specs.Scripts.{Script, command_in, commands_from, deliver_of, forget_of}
use Rattle.line_scripts.specs.Scripts.{mode_named, pick, script_of, script_of_text, send_of}
use Rattle.line_scripts.specs.Scripts.{with_check, with_failed, with_state, world_of}

-- the fault of a record is one that scripts have
abbrev IsLow : Fault → Type 0
IsLow fault = (0 < code_of fault) × (code_of fault < 36)

-- and so is each that is read of it
abbrev OnlyLow : {A : Type 0} → Result A Fault → Type 0
OnlyLow read = IfErr read IsLow

low_record : IsLow faults.BadRecord
low_record = (omega arith, omega arith)

low_number : IsLow faults.BadNumber
low_number = (omega arith, omega arith)

both_low : {A B : Type 0} (read : Result A Fault) (next : A → Result B Fault) → OnlyLow read
    → ((x : A) → OnlyLow (next x)) → OnlyLow (read >>= next)
both_low (Ok x) next h k = k x
both_low (Err fault) next h k = h

want_low : (test : Bool) (fault : Fault) → IsLow fault → OnlyLow (want test fault)
want_low true fault h = tt
want_low false fault h = h

-- one of two, by a test
one_low : {A : Type 0} (test : Bool) (a b : Result A Fault) → OnlyLow a → OnlyLow b
    → OnlyLow (if test then a else b)
one_low true a b h k = h
one_low false a b h k = k

number_low : (least most : ℕ) (text : List ℕ) → OnlyLow (num least most text)
unfolding num
number_low least most text =
    one_low (not (length text == 0) && all_ascii_digits text && nat_le least (digits_value 10 text)
    && nat_le (digits_value 10 text) most)
    (Ok (digits_value 10 text)) (Err faults.BadNumber) tt low_number

plain_low : (text : List ℕ) → OnlyLow (plain text)
plain_low text = number_low 0 _ text

pick_low : (text : List ℕ) → OnlyLow (pick text)
pick_low text = number_low 0 18446744073709551615 text

numbers_low : (fields : Record) → OnlyLow (numbers fields)
unfolding numbers
numbers_low [] = tt
numbers_low (first ∷ others) = both_low (plain first) _ (plain_low first)
    (λ n. both_low (numbers others) _ (numbers_low others) (λ ns. tt))

digit_low : (byte : ℕ) → OnlyLow (digit byte)
digit_low byte =
    one_low (nat_le 48 byte && nat_le byte 57) (Ok (byte - 48)) _ tt
    (one_low (nat_le 65 byte && nat_le byte 70) (Ok (byte - 55)) _ tt
    (one_low (nat_le 97 byte && nat_le byte 102) (Ok (byte - 87))
    (Err faults.BadNumber) tt low_number))

hex_low : (text : List ℕ) → OnlyLow (hex text)
unfolding hex
hex_low [] = tt
hex_low (odd ∷ []) = low_number
hex_low (first ∷ second ∷ rest) =
    both_low (digit first) _ (digit_low first)
    (λ high. both_low (digit second) _ (digit_low second)
    (λ low. both_low (hex rest) _ (hex_low rest) (λ others. tt)))

-- where the fields' faults and those of what comes next are such, so are those of the record
two_low : {A B C : Type 0} (first : Reader A) (second : Reader B) (next : A → B → Result C Fault) (r
    : Record) → ((text : List ℕ) → OnlyLow (first text)) → ((text : List ℕ) → OnlyLow (second text))
    → ((a : A) (b : B) → OnlyLow (next a b)) → OnlyLow (two first second next r)
unfolding two
two_low first second next r h1 h2 h =
    both_low (want (length r == 3) faults.BadRecord) _
    (want_low (length r == 3) faults.BadRecord low_record)
    (λ long. both_low (first (field r 1)) _ (h1 (field r 1))
    (λ a. both_low (second (field r 2)) _ (h2 (field r 2)) (λ b. h a b)))

three_low : {A B C D : Type 0} (first : Reader A) (second : Reader B) (third : Reader C)
    (next : A → B → C → Result D Fault) (r : Record) → ((text : List ℕ) → OnlyLow (first text))
    → ((text : List ℕ) → OnlyLow (second text)) → ((text : List ℕ) → OnlyLow (third text)) →
    ((a : A) (b : B) (c : C) → OnlyLow (next a b c)) → OnlyLow (three first second third next r)
unfolding three
three_low first second third next r h1 h2 h3 h =
    both_low (want (length r == 4) faults.BadRecord) _
    (want_low (length r == 4) faults.BadRecord low_record)
    (λ long. both_low (first (field r 1)) _ (h1 (field r 1))
    (λ a. both_low (second (field r 2)) _ (h2 (field r 2))
    (λ b. both_low (third (field r 3)) _ (h3 (field r 3)) (λ c. h a b c))))

four_low : {A B C D E : Type 0} (first : Reader A) (second : Reader B) (third : Reader C)
    (fourth : Reader D) (next : A → B → C → D → Result E Fault) (r : Record)
    → ((text : List ℕ) → OnlyLow (first text))
    → ((text : List ℕ) → OnlyLow (second text)) → ((text : List ℕ) → OnlyLow (third text))
    → ((text : List ℕ) → OnlyLow (fourth text))
    → ((a : A) (b : B) (c : C) (d : D) → OnlyLow (next a b c d))
    → OnlyLow (four first second third fourth next r)
unfolding four
four_low first second third fourth next r h1 h2 h3 h4 h =
    both_low (want (length r == 5) faults.BadRecord) _
    (want_low (length r == 5) faults.BadRecord low_record)
    (λ long. both_low (first (field r 1)) _ (h1 (field r 1))
    (λ a. both_low (second (field r 2)) _ (h2 (field r 2))
    (λ b. both_low (third (field r 3)) _ (h3 (field r 3))
    (λ c. both_low (fourth (field r 4)) _ (h4 (field r 4)) (λ d. h a b c d)))))

alone_low : {A : Type 0} (value : A) (r : Record) → OnlyLow (alone value r)
unfolding alone
alone_low value r = both_low (want (length r == 1) faults.BadRecord) _
    (want_low (length r == 1) faults.BadRecord low_record) (λ long. tt)

send_low : (n : ℕ) (r : Record) → OnlyLow (send_of n r)
unfolding send_of
send_low n r = three_low plain plain hex _ r plain_low plain_low hex_low (λ from to body. tt)

deliver_low : (n : ℕ) (r : Record) → OnlyLow (deliver_of n r)
unfolding deliver_of
deliver_low n r = four_low plain plain pick hex _ r plain_low plain_low pick_low hex_low
    (λ from to picked state. tt)

state_low : (step : ℕ → List ℕ → Step) (n : ℕ) (r : Record) → OnlyLow (with_state step n r)
unfolding with_state
state_low step n r = two_low plain hex _ r plain_low hex_low (λ at state. tt)

check_low : (step : ℕ → ℕ → Step) (n : ℕ) (r : Record) → OnlyLow (with_check step n r)
unfolding with_check
check_low step n r = two_low plain plain _ r plain_low plain_low (λ at check. tt)

failed_low : (command : List Bool → Command) (n : ℕ) (r : Record)
    → OnlyLow (with_failed command n r)
unfolding with_failed
failed_low command n r = both_low (numbers (drop 1 r)) _ (numbers_low (drop 1 r)) (λ failed. tt)

forget_low : (r : Record) → OnlyLow (forget_of r)
unfolding forget_of
forget_low r =
    one_low (length r == 2) (round (field r 1) >>= λ number. Ok (Forget (Some number)))
    (alone (Forget None) r)
    (both_low (round (field r 1)) _ (number_low 1 _ (field r 1)) (λ number. tt))
    (alone_low (Forget None) r)

command_low : (n : ℕ) (r : Record) → OnlyLow (command_in n r)
unfolding command_in
command_low n r =
    one_low (bytes_eq (field r 0) (codes "send")) (send_of n r) _ (send_low n r)
    (one_low (bytes_eq (field r 0) (codes "deliver")) (deliver_of n r) _ (deliver_low n r)
    (one_low (bytes_eq (field r 0) (codes "check")) (with_state Check n r) _ (state_low Check n r)
    (one_low (bytes_eq (field r 0) (codes "begin")) (with_state Begin n r) _ (state_low Begin n r)
    (one_low (bytes_eq (field r 0) (codes "turn")) (with_state Turn n r) _ (state_low Turn n r)
    (one_low (bytes_eq (field r 0) (codes "damage")) (with_check Damage n r) _
    (check_low Damage n r)
    (one_low (bytes_eq (field r 0) (codes "bar")) (with_check Bar n r) _ (check_low Bar n r)
    (one_low (bytes_eq (field r 0) (codes "recover")) (with_failed
    (λ failed. Do (Recover failed)) n r) _ (failed_low (λ failed. Do (Recover failed)) n r)
    (one_low (bytes_eq (field r 0) (codes "rounds")) (alone Rounds r) _ (alone_low Rounds r)
    (one_low (bytes_eq (field r 0) (codes "history")) (alone History r) _ (alone_low History r)
    (one_low (bytes_eq (field r 0) (codes "bundle")) (with_failed Bundle n r) _
    (failed_low Bundle n r)
    (one_low (bytes_eq (field r 0) (codes "plan")) (with_failed Plan n r) _ (failed_low Plan n r)
    (one_low (bytes_eq (field r 0) (codes "live")) (alone Live r) _ (alone_low Live r)
    (one_low (bytes_eq (field r 0) (codes "answer")) (with_failed Answer n r) _
    (failed_low Answer n r)
    (one_low (bytes_eq (field r 0) (codes "forget")) (forget_of r) _ (forget_low r)
    (one_low (bytes_eq (field r 0) (codes "save")) (alone Save r) (Err faults.BadRecord)
    (alone_low Save r) low_record)))))))))))))))

mode_low : (text : List ℕ) → OnlyLow (mode_named text)
mode_low text =
    one_low (bytes_eq text (codes "fifo")) (Ok Fifo) _ tt
    (one_low (bytes_eq text (codes "unordered")) (Ok Unordered)
    (Err faults.BadRecord) tt low_record)

world_low : (r : Record) → OnlyLow (world_of r)
unfolding world_of
world_low r =
    both_low (want (bytes_eq (field r 0) (codes "world")) faults.NoWorld) _
    (want_low _ faults.NoWorld (omega arith, omega arith))
    (λ first. both_low (want (length r == 4) faults.BadRecord) _
    (want_low _ faults.BadRecord low_record)
    (λ long. both_low (plain (field r 1)) _ (plain_low (field r 1))
    (λ version. both_low (plain (field r 2)) _ (plain_low (field r 2))
    (λ n. both_low (want (nat_le 1 version && nat_le version LAST_VERSION) faults.BadVersion) _
    (want_low _ faults.BadVersion (omega arith, omega arith))
    (λ known. both_low (want (nat_le 1 n && nat_le n (most_in version)) faults.BadCount) _
    (want_low _ faults.BadCount (omega arith, omega arith))
    (λ within. both_low (mode_named (field r 3)) _ (mode_low (field r 3)) (λ mode. tt)))))))

-- each fault that is read of a text is one that scripts have
abbrev OnlyOfScript : {A : Type 0} → Result A TextFault → Type 0
OnlyOfScript read = IfErr read IsOfScript

numbered_faults : {A : Type 0} (i : ℕ) (read : Result A Fault) → OnlyLow read
    → OnlyOfScript (at_record i read)
numbered_faults i (Ok x) h = tt
numbered_faults i (Err fault) h = h

both_faults : {A B : Type 0} (read : Result A TextFault) (next : A → Result B TextFault)
    → OnlyOfScript read → ((x : A) → OnlyOfScript (next x)) → OnlyOfScript (read >>= next)
both_faults (Ok x) next h k = k x
both_faults (Err fault) next h k = h

commands_faults : (n : ℕ) (i : ℕ) (rows : List Record) → OnlyOfScript (commands_from n i rows)
unfolding commands_from
commands_faults n i [] = tt
commands_faults n i (r ∷ rest) =
    both_faults (at_record i (command_in n r)) _
    (numbered_faults i (command_in n r) (command_low n r))
    (λ command. both_faults (commands_from n (i + 1) rest) _ (commands_faults n (i + 1) rest)
    (λ others. tt))

rows_faults : (rows : List Record) → OnlyOfScript (script_of rows)
unfolding script_of
rows_faults [] = (omega arith, omega arith)
rows_faults (first ∷ rest) =
    both_faults (at_record 1 (world_of first)) _
    (numbered_faults 1 (world_of first) (world_low first))
    (λ world. both_faults (commands_from world.0 2 rest) _ (commands_faults world.0 2 rest)
    (λ commands. tt))

-- so is the fault of a whole text
text_faults : (text : List ℕ) → OnlyOfScript (script_of_text text)
unfolding script_of_text
text_faults text =
    elim (is_input_text text) as (λ b. OnlyOfScript ((if b then Ok (records_of_text text)
    else Err (fault_of_record 0 faults.BadRecord)) >>= script_of)) [
      | true ↦ rows_faults (records_of_text text)
      | false ↦ low_record
    ]

-- so is the fault of a call that read it
pub read_codes : {A : Type 0} (seen : A → Script) (result : Result A TextFault) (text : List ℕ)
    → Reads seen result (script_of_text text)
    → IfErr result (λ fault. (fault ≡ no_memory) ⊎ IsOfScript fault)
read_codes seen (Ok x) text h = tt
read_codes seen (Err fault) text (inl none) = inl none
read_codes seen (Err fault) text (inr first) =
    inr (subst (λ (r : Result Script TextFault). IfErr r IsOfScript) first (text_faults text))
