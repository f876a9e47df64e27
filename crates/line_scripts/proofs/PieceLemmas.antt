-- Commands that are kept of the records of a piece, and what its text still spells.
use Rattle.std.proofs.Common.{◌≡◌, ℕ, ◌+◌, false, List, [], ◌∷◌, ◌++◌, append_assoc, length, Result}
use Rattle.std.proofs.Common.{Ok, Err, refl, sym, subst, ap, ◌∙◌, arith, length-append}
use Rattle.std.specs.Prelude.{IfErr, OnOk}
use Rattle.line_fields.specs.Fields.{◌>>=◌}
use Rattle.line_fields.specs.Records.{Record}
use Rattle.line_claims.specs.declared.faults.TextFault.{TextFault}
use Rattle.line_claims.specs.declared.faults.TextError.{TextError}
use Rattle.line_claims.specs.declared.faults.TextError.TheVariants as errors
use Rattle.line_claims.specs.Reads.{FailsText, Yields, at_record}
use Rattle.line_scripts.specs.declared.beginnings.Beginning.{Beginning}
use Rattle.line_scripts.specs.declared.beginnings.Beginning.TheVariants as beginnings
use Rattle.line_scripts.specs.declared.beginnings.TakenMachine.{TakenMachine}
use Rattle.line_scripts.specs.declared.commands.Command.{Command}
use Rattle.line_scripts.specs.Beginnings.{AreKept, HasFound, IsBeginning, has_machine, taken_of}
use Rattle.line_scripts.specs.Pieces.{script_left, with_commands}
use Rattle.line_scripts.specs.Reads.{machine_view}
use Rattle.line_scripts.specs.RunScripts.{RunScript, processes_of}
use Rattle.line_scripts.specs.Scripts.{command_in, commands_from}
use Rattle.line_scripts.proofs.RunScriptLemmas.{made_with, read_alone}

-- ---- the commands of records, and of those behind them

-- one more command in front
with_more : (c : Command) (front : List Command) (read : Result (List Command) TextFault)
    → (with_commands front read >>= λ others. Ok (c ∷ others)) ≡ with_commands (c ∷ front) read
with_more c front (Ok others) = refl
with_more c front (Err fault) = refl

step_both : (first : Result Command TextFault) (some : Result (List Command) TextFault)
    (next later : List Command → Result (List Command) TextFault)
    → ((c : Command) (cs : List Command) → next cs ≡ later (c ∷ cs))
    → (first >>= λ c. ((some >>= λ cs. with_commands cs (next cs)) >>= λ others. Ok (c ∷ others)))
    ≡ ((first >>= λ c. (some >>= λ others. Ok (c ∷ others))) >>= λ cs. with_commands cs (later cs))
step_both (Err fault) some next later same = refl
step_both (Ok c) (Err fault) next later same = refl
step_both (Ok c) (Ok cs) next later same =
    with_more c cs (next cs) ∙ ap (with_commands (c ∷ cs)) (same c cs)

commands_none : (n i : ℕ) (rest : List Record) → commands_from n i ([] ++ rest)
    ≡ (commands_from n i [] >>= λ cs. with_commands cs (commands_from n (length cs + i) rest))
unfolding commands_from
commands_none n i rest =
    let same : i ≡ length {A = Command} [] + i = omega arith in
    read_alone (commands_from n i rest) ∙ ap
    (λ (j : ℕ). with_commands [] (commands_from n j rest)) same

commands_one : (n i : ℕ) (r : Record) (rest : List Record)
    → commands_from n i (r ∷ rest) ≡ (at_record i (command_in n r) >>= λ c.
    (commands_from n (i + 1) rest >>= λ others. Ok (c ∷ others)))
unfolding commands_from
commands_one n i r rest = refl

longer_by_one : (c : Command) (cs : List Command) (i : ℕ)
    → length cs + (i + 1) ≡ length (c ∷ cs) + i
longer_by_one c cs i = omega arith

pub commands_both : (n i : ℕ) (records rest : List Record) → commands_from n i (records ++ rest)
    ≡ (commands_from n i records >>= λ cs. with_commands cs (commands_from n (length cs + i) rest))
commands_both n i [] rest = commands_none n i rest
commands_both n i (r ∷ records) rest =
    commands_one n i r (records ++ rest)
    ∙ ap (λ (read : Result (List Command) TextFault). at_record i (command_in n r) >>= λ c.
    (read >>= λ others. Ok (c ∷ others))) (commands_both n (i + 1) records rest)
    ∙ step_both (at_record i (command_in n r)) (commands_from n (i + 1) records)
    (λ cs. commands_from n (length cs + (i + 1)) rest) (λ cs. commands_from n (length cs + i) rest)
    (λ c cs. ap (λ (j : ℕ). commands_from n j rest) (longer_by_one c cs i))
    ∙ sym (ap (λ (read : Result (List Command) TextFault). read >>= λ cs. with_commands cs
    (commands_from n (length cs + i) rest)) (commands_one n i r records))

-- ---- commands behind those that were taken

-- commands that were read behind others
grown : (front new : List Command) (read : Result (List Command) TextFault)
    → with_commands front read ≡ Ok new → (cs : List Command) × (read ≡ Ok cs) × (new ≡ front ++ cs)
grown front new (Ok cs) h = (cs, refl, cc h)
grown front new (Err fault) h = cc h

not_grown : (front : List Command) (fault : TextFault) (read : Result (List Command) TextFault)
    → with_commands front read ≡ Err fault → read ≡ Err fault
not_grown front fault (Ok cs) h = cc h
not_grown front fault (Err other) h =
    let same : other ≡ fault = cc h in
    ap Err same

both_fronts : (front cs : List Command) (read : Result (List Command) TextFault)
    → with_commands front (with_commands cs read) ≡ with_commands (front ++ cs) read
both_fronts front cs (Ok others) = ap Ok (sym (append_assoc front cs others))
both_fronts front cs (Err fault) = refl

commands_on : (n first : ℕ) (front new : List Command) (records rest : List Record)
    → with_commands front (commands_from n (length front + first) records) ≡ Ok new
    → with_commands front (commands_from n (length front + first) (records ++ rest))
    ≡ with_commands new (commands_from n (length new + first) rest)
commands_on n first front new records rest h =
    let i : ℕ = length front + first in
    let one = grown front new (commands_from n i records) h in
    let cs : List Command = one.0 in
    let count : length cs + i
    ≡ length new + first = omega (arith, ap length one.2, length-append front cs) in
    ap (with_commands front) (commands_both n i records rest ∙ ap (λ (read : Result (List Command)
    TextFault). read >>= λ c. with_commands c (commands_from n (length c + i) rest)) one.1)
    ∙ both_fronts front cs (commands_from n (length cs + i) rest)
    ∙ ap (λ (all : List Command). with_commands all (commands_from n (length cs + i) rest))
    (sym one.2)
    ∙ ap (λ (j : ℕ). with_commands new (commands_from n j rest)) count

commands_stop : (n first : ℕ) (front : List Command) (fault : TextFault) (records rest : List
    Record) → with_commands front (commands_from n (length front + first) records) ≡ Err fault
    → with_commands front (commands_from n (length front + first) (records ++ rest)) ≡ Err fault
commands_stop n first front fault records rest h =
    let i : ℕ = length front + first in
    ap (with_commands front)
    (commands_both n i records rest
    ∙ ap (λ (read : Result (List Command) TextFault). read >>= λ c. with_commands c (commands_from n
    (length c + i) rest)) (not_grown front fault (commands_from n i records) h))

-- what was found of the machine is what it is
found_same : (it : TakenMachine) (found : ℕ × ℕ) (old : List Command) (records : List Record)
    → HasFound (beginnings.Machine it) found
    → with_commands old (commands_from found.0 (length old + found.1) records) ≡ with_commands old
    (commands_from (processes_of (machine_view it.machine)) (length old + it.first) records)
found_same it found old records has =
    ap (λ (n : ℕ). with_commands old (commands_from n (length old + found.1) records)) has.0
    ∙ ap (λ (i : ℕ). with_commands old
    (commands_from (processes_of (machine_view it.machine)) (length old + i) records)) has.1

-- commands were kept
pub kept_on : (b : Beginning) (found : ℕ × ℕ) (result : Result (Unit {0}) TextError)
    (old new : List Command) (records : List Record) → HasFound b found
    → Yields (λ _. new) result
    (with_commands old (commands_from found.0 (length old + found.1) records))
    → OnOk result ((rest : List Record)
    → script_left (taken_of b old) (records ++ rest) ≡ script_left (taken_of b new) rest)
kept_on b found (Err e) old new records has h = tt
kept_on beginnings.Nothing found (Ok u) old new records has h = absurd has
kept_on (beginnings.Text text) found (Ok u) old new records has h = absurd has
kept_on (beginnings.Machine it) found (Ok u) old new records has h = λ rest.
    ap (made_with (machine_view it.machine) it.first) (commands_on (processes_of (machine_view
    it.machine)) it.first old new records rest (sym (found_same it found old records has) ∙ h))

-- a record has a fault
kept_fault : (b : Beginning) (found : ℕ × ℕ) (fault : TextFault) (old : List Command)
    (records rest : List Record) → HasFound b found
    → with_commands old (commands_from found.0 (length old + found.1) records) ≡ Err fault
    → script_left (taken_of b old) (records ++ rest) ≡ Err fault
kept_fault beginnings.Nothing found fault old records rest has h = absurd has
kept_fault (beginnings.Text text) found fault old records rest has h = absurd has
kept_fault (beginnings.Machine it) found fault old records rest has h =
    ap (made_with (machine_view it.machine) it.first)
    (commands_stop (processes_of (machine_view it.machine)) it.first old fault records rest
    (sym (found_same it found old records has) ∙ h))

pub kept_not : (b : Beginning) (found : ℕ × ℕ) (result : Result (Unit {0}) TextError)
    (old new : List Command) (records : List Record) → HasFound b found
    → Yields (λ _. new) result
    (with_commands old (commands_from found.0 (length old + found.1) records))
    → IfErr result (λ error. (rest : List Record)
    → FailsText error (script_left (taken_of b old) (records ++ rest)))
kept_not b found (Ok u) old new records has h = tt
kept_not b found (Err errors.OutOfMemory) old new records has h = λ rest. tt
kept_not b found (Err (errors.Fault f)) old new records has h =
    λ rest. kept_fault b found f old records rest has h

-- what is to be read of records may be said otherwise
pub ok_after : {A E : Type 0} (result : Result A E)
    (old mid new : List Record → Result RunScript TextFault) → ((rest : List Record)
    → old rest ≡ mid rest) → OnOk result ((rest : List Record) → mid rest ≡ new rest)
    → OnOk result ((rest : List Record) → old rest ≡ new rest)
ok_after (Ok x) old mid new same h = λ rest. same rest ∙ h rest
ok_after (Err e) old mid new same h = tt

pub err_after : {A : Type 0} (result : Result A TextError)
    (old mid : List Record → Result RunScript TextFault) → ((rest : List Record)
    → old rest ≡ mid rest) → IfErr result (λ e. (rest : List Record) → FailsText e (mid rest))
    → IfErr result (λ e. (rest : List Record) → FailsText e (old rest))
err_after (Ok x) old mid same h = tt
err_after (Err e) old mid same h = λ rest. subst
    (λ (read : Result RunScript TextFault). FailsText e read) (sym (same rest)) (h rest)

found_has : (b : Beginning) (found : ℕ × ℕ) → HasFound b found → has_machine b ≡ false → ⊥
found_has beginnings.Nothing found has none = has
found_has (beginnings.Text text) found has none = has
found_has (beginnings.Machine it) found has none = cc none

-- a beginning that was found, and commands behind it
pub found_kept : (b : Beginning) (found : ℕ × ℕ) (commands : List Command) → IsBeginning b
    → HasFound b found → AreKept b commands
found_kept b found commands begun has =
    record { begun = begun; none = λ none. absurd (found_has b found has none) }
