-- Reading the commands of records one by one.
use Rattle.std.proofs.Common.{◌≡◌, ℕ, ◌+◌, List, [], ◌∷◌, ◌++◌, Result, Ok, Err, refl, sym, ap, ◌∙◌}
use Rattle.std.proofs.Common.{append_assoc, arith, length, length-append}
use Rattle.std.proofs.lemmas.List.{append-nil}
use Rattle.line_fields.specs.Fields.{◌>>=◌}
use Rattle.line_fields.specs.Records.{Record}
use Rattle.line_scripts.specs.declared.commands.Command.{Command}
use Rattle.line_claims.specs.declared.faults.TextFault.{TextFault}
use Rattle.line_claims.specs.declared.faults.TextError.{TextError}
use Rattle.line_claims.specs.declared.faults.TextError.TheVariants as errors
use Rattle.line_fields.specs.declared.faults.Fault.{Fault}
use Rattle.line_fields.specs.declared.faults.ReadError.{ReadError}
use Rattle.line_fields.specs.declared.faults.ReadError.TheVariants as memory
use Rattle.line_fields.specs.Fields.{Fails}
use Rattle.line_claims.specs.Reads.{FailsText, at_record, error_at}
use Rattle.line_scripts.specs.Blocks.{with_command}
use Rattle.line_scripts.specs.Pieces.{with_commands}
use Rattle.line_scripts.specs.Scripts.{command_in, commands_from}

no_more : (n i : ℕ) (rows : List Record) → rows ≡ [] → commands_from n i rows ≡ Ok []
unfolding commands_from
no_more n i rows e = ap (commands_from n i) e

first_command : (n i : ℕ) (r : Record) (rest : List Record) (c : Command)
    → at_record i (command_in n r) ≡ Ok c
    → commands_from n i (r ∷ rest) ≡ (commands_from n (i + 1) rest >>= λ others. Ok (c ∷ others))
unfolding commands_from
first_command n i r rest c h = rw h refl

stops_at : (n i : ℕ) (r : Record) (rest : List Record) (f : TextFault)
    → at_record i (command_in n r) ≡ Err f → commands_from n i (r ∷ rest) ≡ Err f
unfolding commands_from
stops_at n i r rest f h = rw h refl

one_more : (front : List Command) (c : Command) (read : Result (List Command) TextFault)
    → with_commands front (read >>= λ others. Ok (c ∷ others))
    ≡ with_commands (front ++ (c ∷ [])) read
one_more front c (Ok others) = ap Ok (sym (append_assoc front (c ∷ []) others))
one_more front c (Err f) = refl

-- the last record was read
pub ended_at : (front : List Command) (n i : ℕ) (rows : List Record)
    (total : Result (List Command) TextFault) → rows ≡ []
    → total ≡ with_commands front (commands_from n i rows) → total ≡ Ok front
ended_at front n i rows total e k =
    k ∙ ap (with_commands front) (no_more n i rows e) ∙ ap Ok (append-nil front)

-- one more record was read
read_more : (front later : List Command) (n i next : ℕ) (rows : List Record) (r : Record)
    (rest : List Record) (c : Command) (total : Result (List Command) TextFault) → rows ≡ r ∷ rest
    → later ≡ front ++ (c ∷ []) → next ≡ i + 1 → at_record i (command_in n r) ≡ Ok c
    → total ≡ with_commands front (commands_from n i rows)
    → total ≡ with_commands later (commands_from n next rest)
read_more front later n i next rows r rest c total e more number h k =
    k ∙ ap (λ (rs : List Record). with_commands front (commands_from n i rs)) e ∙ ap (with_commands
    front) (first_command n i r rest c h) ∙ one_more front c (commands_from n (i + 1) rest)
    ∙ ap (λ (j : ℕ). with_commands (front ++ (c ∷ [])) (commands_from n j rest)) (sym number)
    ∙ ap (λ (cs : List Command). with_commands cs (commands_from n next rest)) (sym more)

-- the command behind those that were kept before it
one_kept : (front later : List Command) (read : Result Command Fault)
    → with_command front read ≡ Ok later → (c : Command) × (read ≡ Ok c) × (later ≡ front ++ c ∷ [])
one_kept front later (Ok c) h = (c, refl, cc h)
one_kept front later (Err fault) h = cc h

-- the command of one more record was kept
pub kept_more : (front later : List Command) (n first : ℕ) (rows : List Record) (r : Record)
    (rest : List Record) (total : Result (List Command) TextFault) → rows ≡ r ∷ rest
    → with_command front (command_in n r) ≡ Ok later
    → total ≡ with_commands front (commands_from n (length front + first) rows)
    → total ≡ with_commands later (commands_from n (length later + first) rest)
kept_more front later n first rows r rest total e kept k =
    let one = one_kept front later (command_in n r) kept in
    let long : length later
    ≡ length front + 1 = ap length one.2 ∙ length-append front (one.0 ∷ []) in
    read_more front later n (length front + first) (length later + first) rows r rest one.0 total e
    one.2 (omega (arith, long)) (ap (at_record (length front + first)) one.1) k

-- a record has a fault
stopped : (front : List Command) (n i : ℕ) (rows : List Record) (r : Record) (rest : List Record)
    (e : TextError) (total : Result (List Command) TextFault) → rows ≡ r ∷ rest
    → FailsText e (at_record i (command_in n r))
    → total ≡ with_commands front (commands_from n i rows) → FailsText e total
stopped front n i rows r rest errors.OutOfMemory total s h k = tt
stopped front n i rows r rest (errors.Fault f) total s h k =
    k ∙ ap (λ (rs : List Record). with_commands front (commands_from n i rs)) s ∙ ap
    (with_commands front) (stops_at n i r rest f h)

-- why the command of a record was not read
not_kept : (front : List Command) (e : ReadError) (read : Result Command Fault)
    → Fails e (with_command front read) → Fails e read
not_kept front memory.OutOfMemory read h = tt
not_kept front (memory.Fault fault) (Ok c) h = cc h
not_kept front (memory.Fault fault) (Err other) h =
    let same : other ≡ fault = cc h in
    ap Err same

-- and with the number of the record
fails_at : (i : ℕ) (e : ReadError) (read : Result Command Fault) → Fails e read
    → FailsText (error_at i e) (at_record i read)
fails_at i memory.OutOfMemory read h = tt
fails_at i (memory.Fault fault) read h = ap (at_record i) h

-- the command of a record was not kept
pub kept_no_more : (front : List Command) (n first number : ℕ) (rows : List Record) (r : Record)
    (rest : List Record) (e : ReadError) (total : Result (List Command) TextFault) → rows ≡ r ∷ rest
    → number ≡ length front + first → Fails e (with_command front (command_in n r))
    → total ≡ with_commands front (commands_from n (length front + first) rows)
    → FailsText (error_at number e) total
kept_no_more front n first number rows r rest e total s is h k =
    rw is (stopped front n (length front + first) rows r rest
    (error_at (length front + first) e) total s (fails_at (length front + first) e
    (command_in n r) (not_kept front e (command_in n r) h)) k)
