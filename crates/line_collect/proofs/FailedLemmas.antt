-- A report of the processes that a record names.
use Rattle.std.proofs.Common.{◌≡◌, ℕ, Bool, true, false, List, [], ◌∷◌, drop, Result, Ok, Err, refl}
use Rattle.std.proofs.Common.{sym, ap, ◌∙◌}
use Rattle.std.specs.Prelude.{◌==◌, fold, if◌then◌else◌, nat_lt}
use Rattle.std.specs.List.{list_all}
use Rattle.std.specs.Str.Parse.{digits_value}
use Rattle.line_names.specs.Sets.{nobody, with_member}
use Rattle.line_fields.specs.declared.faults.Fault.{Fault}
use Rattle.line_fields.specs.declared.faults.Fault.TheVariants as faults
use Rattle.line_fields.specs.Faults.{code_of}
use Rattle.line_fields.specs.Fields.{◌>>=◌, num, want}
use Rattle.line_fields.specs.Records.{Record}
use Rattle.line_claims.specs.Entries.{failed_of}
use Rattle.line_claims.specs.Numbers.{numbers, plain}
use Rattle.line_collect.specs.declared.reports.Report.{Report}
use Rattle.line_collect.specs.declared.reports.Report.TheVariants.{Refused}
use Rattle.line_collect.specs.Reports.{report_among, report_of_failed}

-- a field is no number, and nothing else is wrong with it
abbrev OnlyBadNumber : {A : Type 0} → Result A Fault → Type 0
OnlyBadNumber read = (fault : Fault) → read ≡ Err fault → fault ≡ faults.BadNumber

tested : (test : Bool) (n : ℕ) → OnlyBadNumber (if test then Ok n else Err faults.BadNumber)
tested true n fault h = cc h
tested false n fault h = cc h

number_fault : (text : List ℕ) → OnlyBadNumber (plain text)
unfolding num
number_fault text fault h = tested _ (digits_value 10 text) fault h

both_faults : (a : Result ℕ Fault) (b : Result (List ℕ) Fault) → OnlyBadNumber a → OnlyBadNumber b
    → OnlyBadNumber (a >>= λ n. b >>= λ ns. Ok (n ∷ ns))
both_faults (Ok n) (Ok ns) first others fault h = cc h
both_faults (Ok n) (Err f) first others fault h = others fault (cc h)
both_faults (Err f) b first others fault h = first fault (cc h)

numbers_fault : (fields : Record) → OnlyBadNumber (numbers fields)
unfolding numbers
numbers_fault [] fault h = cc h
numbers_fault (first ∷ others) fault h =
    both_faults (plain first) (numbers others) (number_fault first) (numbers_fault others) fault h

-- the set of processes that were read, all of them below n, and the report of such a set
abbrev set_of : ℕ → Result (List ℕ) Fault → Result (List Bool) Fault
set_of n read = read >>= λ failed. want (list_all (λ p. nat_lt p n) failed) faults.NoSuchProcess >>=
    λ there. Ok (fold with_member nobody failed)

abbrev report_of_set : (List Bool → Report) → ℕ → Result (List ℕ) Fault → Result Report Fault
report_of_set report n read =
    read >>= λ failed. Ok (report_among n failed (report (fold with_member nobody failed)))

abbrev among_if : Bool → (List Bool → Report) → List ℕ → Report
among_if test report failed =
    if test then report (fold with_member nobody failed) else Refused (code_of faults.NoSuchProcess)

found_if : (test : Bool) (failed : List ℕ) (report : List Bool → Report) (set : List Bool)
    → (want test faults.NoSuchProcess >>= λ there. Ok (fold with_member nobody failed)) ≡ Ok set
    → among_if test report failed ≡ report set
found_if true failed report set h =
    let same : fold with_member nobody failed ≡ set = cc h in
    ap report same
found_if false failed report set h = cc h

refused_if : (test : Bool) (failed : List ℕ) (report : List Bool → Report) (fault : Fault)
    → (want test faults.NoSuchProcess >>= λ there. Ok (fold with_member nobody failed)) ≡ Err fault
    → (fault ≡ faults.NoSuchProcess)
    × (among_if test report failed ≡ Refused (code_of faults.NoSuchProcess))
refused_if true failed report fault h = cc h
refused_if false failed report fault h = (cc h, refl)

abbrev report_read : Report → Result Report Fault
report_read report = Ok report

set_found : (report : List Bool → Report) (n : ℕ) (read : Result (List ℕ) Fault) (set : List Bool)
    → set_of n read ≡ Ok set → report_of_set report n read ≡ Ok (report set)
set_found report n (Ok failed) set h =
    ap report_read (found_if (list_all (λ p. nat_lt p n) failed) failed report set h)
set_found report n (Err fault) set h = cc h

-- a fault says that there is no such process
abbrev is_of_process : Fault → Bool
is_of_process fault = code_of fault == code_of faults.NoSuchProcess

set_refused : (report : List Bool → Report) (n : ℕ) (read : Result (List ℕ) Fault) (fault : Fault)
    → OnlyBadNumber read → is_of_process fault ≡ true → set_of n read ≡ Err fault
    → report_of_set report n read ≡ Ok (Refused (code_of faults.NoSuchProcess))
set_refused report n (Ok failed) fault only one h =
    ap report_read (refused_if (list_all (λ p. nat_lt p n) failed) failed report fault h).1
set_refused report n (Err fault') fault only one h =
    let same : fault' ≡ fault = cc h in
    let other : false
    ≡ true = ap is_of_process (sym (only fault' refl)) ∙ ap is_of_process same ∙ one in
    cc other

set_not_read : (report : List Bool → Report) (n : ℕ) (read : Result (List ℕ) Fault) (fault : Fault)
    → is_of_process fault ≡ false → set_of n read ≡ Err fault
    → report_of_set report n read ≡ Err fault
set_not_read report n (Ok failed) fault other h =
    let one : true ≡ false = ap is_of_process (sym (refused_if (list_all (λ p. nat_lt p n) failed)
    failed (λ set. Refused (code_of fault)) fault h).0) ∙ other in
    cc one
set_not_read report n (Err fault') fault other h = cc h

pub failed_found : (report : List Bool → Report) (n : ℕ) (r : Record) (set : List Bool)
    → failed_of n r ≡ Ok set → report_of_failed report n r ≡ Ok (report set)
unfolding failed_of report_of_failed
failed_found report n r set h = set_found report n (numbers (drop 1 r)) set h

pub failed_refused : (report : List Bool → Report) (n : ℕ) (r : Record) (fault : Fault)
    → is_of_process fault ≡ true → failed_of n r ≡ Err fault
    → report_of_failed report n r ≡ Ok (Refused (code_of faults.NoSuchProcess))
unfolding failed_of report_of_failed
failed_refused report n r fault one h =
    set_refused report n (numbers (drop 1 r)) fault (numbers_fault (drop 1 r)) one h

pub failed_not_read : (report : List Bool → Report) (n : ℕ) (r : Record) (fault : Fault)
    → is_of_process fault ≡ false → failed_of n r ≡ Err fault
    → report_of_failed report n r ≡ Err fault
unfolding failed_of report_of_failed
failed_not_read report n r fault other h = set_not_read report n (numbers (drop 1 r)) fault other h
