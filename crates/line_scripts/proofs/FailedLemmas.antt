-- A command of the processes that a record names.
use Rattle.std.proofs.Common.{◌≡◌, ℕ, Bool, true, false, List, [], ◌∷◌, drop, Result, Ok, Err, refl}
use Rattle.std.proofs.Common.{sym, ap, ◌∙◌}
use Rattle.std.specs.Prelude.{◌==◌, fold, if◌then◌else◌, nat_lt}
use Rattle.std.specs.List.{list_all}
use Rattle.std.specs.Str.Parse.{digits_value}
use Rattle.line_names.specs.Sets.{nobody, with_member}
use Rattle.line_fields.specs.declared.faults.Fault.{Fault}
use Rattle.line_fields.specs.declared.faults.Fault.TheVariants as faults
use Rattle.line_fields.specs.Faults.{code_of}
use Rattle.line_fields.specs.Fields.{◌>>=◌, num, want}
use Rattle.line_fields.specs.Records.{Record}
use Rattle.line_claims.specs.Entries.{failed_of}
use Rattle.line_claims.specs.Numbers.{numbers, plain}
use Rattle.line_scripts.specs.declared.commands.Command.{Command}
use Rattle.line_scripts.specs.Scripts.{below, refused_command, with_failed}

-- a field is no number, and nothing else is wrong with it
abbrev OnlyBadNumber : {A : Type 0} → Result A Fault → Type 0
OnlyBadNumber read = (fault : Fault) → read ≡ Err fault → fault ≡ faults.BadNumber

tested : (test : Bool) (n : ℕ) → OnlyBadNumber (if test then Ok n else Err faults.BadNumber)
tested true n fault h = cc h
tested false n fault h = cc h

number_fault : (text : List ℕ) → OnlyBadNumber (plain text)
unfolding num
number_fault text fault h = tested _ (digits_value 10 text) fault h

both_faults : (a : Result ℕ Fault) (b : Result (List ℕ) Fault) → OnlyBadNumber a → OnlyBadNumber b
    → OnlyBadNumber (a >>= λ n. b >>= λ ns. Ok (n ∷ ns))
both_faults (Ok n) (Ok ns) first others fault h = cc h
both_faults (Ok n) (Err f) first others fault h = others fault (cc h)
both_faults (Err f) b first others fault h = first fault (cc h)

numbers_fault : (fields : Record) → OnlyBadNumber (numbers fields)
unfolding numbers
numbers_fault [] fault h = cc h
numbers_fault (first ∷ others) fault h =
    both_faults (plain first) (numbers others) (number_fault first) (numbers_fault others) fault h

-- the set of processes that were read, all of them below n, and the command of such a set
abbrev set_of : ℕ → Result (List ℕ) Fault → Result (List Bool) Fault
set_of n read = read >>= λ failed. want (list_all (λ p. nat_lt p n) failed) faults.NoSuchProcess >>=
    λ there. Ok (fold with_member nobody failed)

abbrev command_of_set : (List Bool → Command) → ℕ → Result (List ℕ) Fault → Result Command Fault
command_of_set command n read =
    read >>= λ failed. Ok (below n failed (command (fold with_member nobody failed)))

abbrev below_if : Bool → (List Bool → Command) → List ℕ → Command
below_if test command failed =
    if test then command (fold with_member nobody failed) else refused_command faults.NoSuchProcess

found_if : (test : Bool) (failed : List ℕ) (command : List Bool → Command) (set : List Bool)
    → (want test faults.NoSuchProcess >>= λ there. Ok (fold with_member nobody failed)) ≡ Ok set
    → below_if test command failed ≡ command set
found_if true failed command set h =
    let same : fold with_member nobody failed ≡ set = cc h in
    ap command same
found_if false failed command set h = cc h

refused_if : (test : Bool) (failed : List ℕ) (command : List Bool → Command) (fault : Fault)
    → (want test faults.NoSuchProcess >>= λ there. Ok (fold with_member nobody failed)) ≡ Err fault
    → (fault ≡ faults.NoSuchProcess)
    × (below_if test command failed ≡ refused_command faults.NoSuchProcess)
refused_if true failed command fault h = cc h
refused_if false failed command fault h = (cc h, refl)

abbrev command_read : Command → Result Command Fault
command_read command = Ok command

set_found : (command : List Bool → Command) (n : ℕ) (read : Result (List ℕ) Fault) (set : List Bool)
    → set_of n read ≡ Ok set → command_of_set command n read ≡ Ok (command set)
set_found command n (Ok failed) set h =
    ap command_read (found_if (list_all (λ p. nat_lt p n) failed) failed command set h)
set_found command n (Err fault) set h = cc h

-- a fault says that there is no such process
abbrev is_of_process : Fault → Bool
is_of_process fault = code_of fault == code_of faults.NoSuchProcess

set_refused : (command : List Bool → Command) (n : ℕ) (read : Result (List ℕ) Fault) (fault : Fault)
    → OnlyBadNumber read → is_of_process fault ≡ true → set_of n read ≡ Err fault
    → command_of_set command n read ≡ Ok (refused_command faults.NoSuchProcess)
set_refused command n (Ok failed) fault only one h =
    ap command_read (refused_if (list_all (λ p. nat_lt p n) failed) failed command fault h).1
set_refused command n (Err fault') fault only one h =
    let same : fault' ≡ fault = cc h in
    let other : false
    ≡ true = ap is_of_process (sym (only fault' refl)) ∙ ap is_of_process same ∙ one in
    cc other

set_not_read : (command : List Bool → Command) (n : ℕ) (read : Result (List ℕ) Fault)
    (fault : Fault) → is_of_process fault ≡ false → set_of n read ≡ Err fault
    → command_of_set command n read ≡ Err fault
set_not_read command n (Ok failed) fault other h =
    let one : true ≡ false = ap is_of_process (sym (refused_if (list_all (λ p. nat_lt p n) failed)
    failed (λ set. refused_command fault) fault h).0) ∙ other in
    cc one
set_not_read command n (Err fault') fault other h = cc h

pub failed_found : (command : List Bool → Command) (n : ℕ) (r : Record) (set : List Bool)
    → failed_of n r ≡ Ok set → with_failed command n r ≡ Ok (command set)
unfolding failed_of with_failed
failed_found command n r set h = set_found command n (numbers (drop 1 r)) set h

pub failed_refused : (command : List Bool → Command) (n : ℕ) (r : Record) (fault : Fault)
    → is_of_process fault ≡ true → failed_of n r ≡ Err fault
    → with_failed command n r ≡ Ok (refused_command faults.NoSuchProcess)
unfolding failed_of with_failed
failed_refused command n r fault one h =
    set_refused command n (numbers (drop 1 r)) fault (numbers_fault (drop 1 r)) one h

pub failed_not_read : (command : List Bool → Command) (n : ℕ) (r : Record) (fault : Fault)
    → is_of_process fault ≡ false → failed_of n r ≡ Err fault → with_failed command n r ≡ Err fault
unfolding failed_of with_failed
failed_not_read command n r fault other h =
    set_not_read command n (numbers (drop 1 r)) fault other h
