-- A script by its first record, and one whose saved machine was read.
use Rattle.std.proofs.Common.{◌≡◌, ◌≢◌, ℕ, ◌+◌, Bool, true, false, List, [], ◌∷◌, length, Result}
use Rattle.std.proofs.Common.{Ok, Err, refl, sym, ap, ◌∙◌, inl, inr, arith}
use Rattle.std.specs.Prelude.{MatchBool, codes}
use Rattle.std.specs.Str.{bytes_eq}
use Rattle.std.proofs.lemmas.Bool.{cases_Bool}
use Rattle.std.proofs.lemmas.Slice.Eq.{bytes_eq-Decides}
use Rattle.line_fields.specs.declared.faults.Fault.{Fault}
use Rattle.line_fields.specs.declared.faults.Fault.TheVariants as faults
use Rattle.line_fields.specs.Bytes.{is_input_text}
use Rattle.line_fields.specs.Fields.{◌>>=◌, want}
use Rattle.line_fields.specs.Records.{Record, field, records_of_text}
use Rattle.line_tape.specs.declared.modes.Mode.{Mode}
use Rattle.line_claims.specs.declared.faults.TextFault.{TextFault}
use Rattle.line_claims.specs.declared.faults.TextError.{TextError}
use Rattle.line_claims.specs.declared.faults.TextError.TheVariants as errors
use Rattle.line_claims.specs.declared.saved_readers.SavedStage.{SavedStage}
use Rattle.line_claims.specs.declared.saved_readers.SavedStage.TheVariants as stages
use Rattle.line_claims.specs.Parts.{Part, is_named}
use Rattle.line_claims.specs.Reads.{FailsText, at_record, fault_of_record}
use Rattle.line_claims.specs.Saved.{SavedParts, saved_of}
use Rattle.line_claims.specs.SavedReadings.{SavedPlace, is_last, is_whole, part_left, saved_left}
use Rattle.line_claims.specs.Texts.{records_in}
use Rattle.line_scripts.specs.declared.commands.Command.{Command}
use Rattle.line_scripts.specs.Pieces.{InCommands, InSaved, script_left, script_with, with_commands}
use Rattle.line_scripts.specs.RunScripts.{FirstMachine, New, RunScript, Saved, as_run}
use Rattle.line_scripts.specs.RunScripts.{first_machine_of, new_first, processes_of, run_script_of}
use Rattle.line_scripts.specs.RunScripts.{run_script_of_text, saved_first, script_after}
use Rattle.line_scripts.specs.RunScripts.{script_of_machine}
use Rattle.line_scripts.specs.Scripts.{Script, commands_from, script_of, script_of_text, world_of}

-- ---- by its first record

pub run_none : run_script_of [] ≡ Err (fault_of_record 1 faults.NoWorld)
unfolding run_script_of first_machine_of
run_none = refl

after_saved : (read : Result (Part SavedParts) TextFault) → ((read >>= λ saved. Ok
    (saved_first saved)) >>= script_after) ≡ (read >>= λ saved. script_after (saved_first saved))
after_saved (Ok saved) = refl
after_saved (Err fault) = refl

pub run_saved : (r : Record) (rest : List Record) → is_named (codes "history") r ≡ true
    → run_script_of (r ∷ rest) ≡ (saved_of (r ∷ rest) >>= λ saved. script_after (saved_first saved))
unfolding run_script_of first_machine_of
run_saved r rest named = rw named (after_saved (saved_of (r ∷ rest)))

after_world : (read : Result (ℕ × Mode) TextFault) (rest : List Record)
    → ((read >>= λ world. Ok (new_first rest world)) >>= script_after)
    ≡ (read >>= λ world. script_after (new_first rest world))
after_world (Ok world) rest = refl
after_world (Err fault) rest = refl

pub run_world : (r : Record) (rest : List Record) → is_named (codes "history") r ≡ false
    → run_script_of (r ∷ rest)
    ≡ (at_record 1 (world_of r) >>= λ world. script_after (new_first rest world))
unfolding run_script_of first_machine_of
run_world r rest other = rw other (after_world (at_record 1 (world_of r)) rest)

-- ---- as it is read by itself

new_script : (world : ℕ × Mode) (read : Result (List Command) TextFault)
    → (read >>= λ commands. Ok (script_of_machine (New world.0 world.1) 2 commands))
    ≡ ((read >>= λ commands. Ok (record { n = world.0; mode = world.1; commands = commands })) >>= λ
    script. Ok (as_run script))
new_script world (Ok commands) = refl
new_script world (Err fault) = refl

by_world : (read : Result (ℕ × Mode) TextFault) (rest : List Record)
    → (read >>= λ world. script_after (new_first rest world))
    ≡ ((read >>= λ world. (commands_from world.0 2 rest >>= λ commands. Ok (record
    { n = world.0; mode = world.1; commands = commands }))) >>= λ script. Ok (as_run script))
by_world (Ok world) rest = new_script world (commands_from world.0 2 rest)
by_world (Err fault) rest = refl

script_first : (r : Record) (rest : List Record) → script_of (r ∷ rest)
    ≡ (at_record 1 (world_of r) >>= λ world. (commands_from world.0 2 rest >>= λ commands. Ok
    (record { n = world.0; mode = world.1; commands = commands })))
unfolding script_of
script_first r rest = refl

pub run_as_read : (r : Record) (rest : List Record) → is_named (codes "history") r ≡ false
    → run_script_of (r ∷ rest) ≡ (script_of (r ∷ rest) >>= λ script. Ok (as_run script))
run_as_read r rest other =
    run_world r rest other ∙ by_world (at_record 1 (world_of r)) rest
    ∙ ap (λ (read : Result Script TextFault). read >>= λ script. Ok (as_run script))
    (sym (script_first r rest))

pub script_none : script_of [] ≡ Err (fault_of_record 1 faults.NoWorld)
unfolding script_of
script_none = refl

-- ---- a record that is not `world`

world_named : (b : Bool) (fault : Fault) (more : Unit → Result (ℕ × Mode) Fault) (world : ℕ × Mode)
    → (want b fault >>= more) ≡ Ok world → b ≡ true
world_named true fault more world h = refl
world_named false fault more world h = absurd cc

world_first : (r : Record) (world : ℕ × Mode) → world_of r ≡ Ok world
    → bytes_eq (field r 0) (codes "world") ≡ true
unfolding world_of
world_first r world h = world_named (bytes_eq (field r 0) (codes "world")) faults.NoWorld _ world h

two_names : codes "world" ≢ codes "history"
two_names e = cc

-- the first record of a saved machine
pub saved_is_no_world : (r : Record) → is_named (codes "history") r ≡ true
    → world_of r ≡ Err faults.NoWorld
unfolding world_of
saved_is_no_world r named = elim (cases_Bool (bytes_eq (field r 0) (codes "world"))) [
  | inl e ↦ absurd (two_names (sym ((bytes_eq-Decides (field r 0) (codes "world")).0 e) ∙
      (bytes_eq-Decides (field r 0) (codes "history")).0 named))
  | inr e ↦ rw e refl
]

pub saved_is_no_script : (r : Record) (rest : List Record) → is_named (codes "history") r ≡ true
    → script_of (r ∷ rest) ≡ Err (fault_of_record 1 faults.NoWorld)
unfolding script_of
saved_is_no_script r rest named = rw (saved_is_no_world r named) refl

-- ---- texts

text_in : (text : List ℕ) (records : List Record) → records_in text ≡ Ok records
    → script_of_text text ≡ script_of records
unfolding script_of_text
text_in text records is = rw is refl

run_text_in : (text : List ℕ) (records : List Record) → records_in text ≡ Ok records
    → run_script_of_text text ≡ run_script_of records
unfolding run_script_of_text
run_text_in text records is = rw is refl

plain_in : (text : List ℕ) → is_input_text text ≡ true → records_in text ≡ Ok (records_of_text text)
plain_in text plain = rw plain refl

-- a text that has a byte that no text has
pub read_by_none : (text : List ℕ) → is_input_text text ≡ false
    → run_script_of_text text ≡ (script_of_text text >>= λ script. Ok (as_run script))
unfolding run_script_of_text script_of_text
read_by_none text bad = rw bad refl

-- one without records
pub read_of_none : (text : List ℕ) → is_input_text text ≡ true → records_of_text text ≡ []
    → run_script_of_text text ≡ (script_of_text text >>= λ script. Ok (as_run script))
read_of_none text plain none =
    run_text_in text _ (plain_in text plain) ∙ ap run_script_of none ∙ run_none
    ∙ sym (ap (λ (read : Result Script TextFault). read >>= λ script. Ok (as_run script))
    (text_in text _ (plain_in text plain) ∙ ap script_of none ∙ script_none))

-- one that begins otherwise
pub read_of_other : (text : List ℕ) (r : Record) (rest : List Record) → is_input_text text ≡ true
    → records_of_text text ≡ r ∷ rest → is_named (codes "history") r ≡ false
    → run_script_of_text text ≡ (script_of_text text >>= λ script. Ok (as_run script))
read_of_other text r rest plain is other =
    run_text_in text _ (plain_in text plain) ∙ ap run_script_of is ∙ run_as_read r rest other
    ∙ sym (ap (λ (read : Result Script TextFault). read >>= λ script. Ok (as_run script))
    (text_in text _ (plain_in text plain) ∙ ap script_of is))

-- one that begins with a saved machine
pub read_of_saved : (text : List ℕ) (r : Record) (rest : List Record) → is_input_text text ≡ true
    → records_of_text text ≡ r ∷ rest → is_named (codes "history") r ≡ true
    → script_of_text text ≡ Err (fault_of_record 1 faults.NoWorld)
read_of_saved text r rest plain is named =
    text_in text _ (plain_in text plain) ∙ ap script_of is ∙ saved_is_no_script r rest named

-- by whether it does
pub read_by_first : (text : List ℕ) (r : Record) (rest : List Record) (b : Bool)
    → is_input_text text ≡ true → records_of_text text ≡ r ∷ rest → b ≡ is_named (codes "history") r
    → MatchBool b (script_of_text text ≡ Err (fault_of_record 1 faults.NoWorld))
    (run_script_of_text text ≡ (script_of_text text >>= λ script. Ok (as_run script)))
read_by_first text r rest true plain is by = read_of_saved text r rest plain is (sym by)
read_by_first text r rest false plain is by = read_of_other text r rest plain is (sym by)

-- records of which a script is read begin with no saved machine
other_of_script : (records : List Record) (script : Script) → script_of records ≡ Ok script
    → run_script_of records ≡ Ok (as_run script)
other_of_script [] script h = let none = script_none in cc
other_of_script (r ∷ rest) script h = elim (cases_Bool (is_named (codes "history") r)) [
  | inl e ↦ let none = saved_is_no_script r rest e in cc
  | inr e ↦ run_as_read r rest e ∙ ap
      (λ (read : Result Script TextFault). read >>= λ s. Ok (as_run s)) h
]

read_in : (read : Result (List Record) TextFault) (script : Script)
    → (read >>= script_of) ≡ Ok script → (read >>= run_script_of) ≡ Ok (as_run script)
read_in (Ok records) script h = other_of_script records script h
read_in (Err fault) script h = cc h

pub run_of_script : (text : List ℕ) (script : Script) → script_of_text text ≡ Ok script
    → run_script_of_text text ≡ Ok (as_run script)
unfolding script_of_text run_script_of_text
run_of_script text script h = read_in (records_in text) script h

-- ---- a machine behind which the commands stand

-- a script of commands that were read
abbrev pub made_with : FirstMachine → ℕ → Result (List Command) TextFault
    → Result RunScript TextFault
made_with machine first read = read >>= λ all. Ok (script_of_machine machine first all)

pub read_alone : (read : Result (List Command) TextFault) → read ≡ with_commands [] read
read_alone (Ok commands) = refl
read_alone (Err fault) = refl

pub script_begins : (machine : FirstMachine) (first : ℕ) (rest : List Record) → script_after
    (record { value = machine; number = first; left = rest }) ≡ script_with machine first [] rest
script_begins machine first rest =
    let same : first ≡ length {A = Command} [] + first = omega arith in
    ap (made_with machine first) (read_alone (commands_from (processes_of machine) first rest))
    ∙ ap (λ (i : ℕ). made_with machine first
    (with_commands [] (commands_from (processes_of machine) i rest))) same

pub begins_new : (r : Record) (rest : List Record) (n : ℕ) (mode : Mode)
    → is_named (codes "history") r ≡ false → world_of r ≡ Ok (n, mode)
    → run_script_of (r ∷ rest) ≡ script_left (InCommands (New n mode) 2 []) rest
begins_new r rest n mode other h =
    run_world r rest other ∙ ap (λ (read : Result (ℕ × Mode) Fault). at_record 1 read >>= λ world.
    script_after (new_first rest world)) h
    ∙ script_begins (New n mode) 2 rest

pub begins_not : (r : Record) (rest : List Record) (fault : Fault) → is_named (codes "history") r
    ≡ false → world_of r ≡ Err fault → run_script_of (r ∷ rest) ≡ Err (fault_of_record 1 fault)
begins_not r rest fault other h =
    run_world r rest other ∙ ap (λ (read : Result (ℕ × Mode) Fault). at_record 1 read >>= λ world.
    script_after (new_first rest world)) h

-- ---- the text of a saved machine

pub begins_text : (r : Record) (rest : List Record) (place : SavedPlace)
    → is_named (codes "history") r ≡ true → saved_of (r ∷ rest) ≡ saved_left place 2 rest
    → run_script_of (r ∷ rest) ≡ script_left (InSaved place 2) rest
begins_text r rest place named h = run_saved r rest named ∙ ap (λ (read : Result
    (Part SavedParts) TextFault). read >>= λ saved. script_after (saved_first saved)) h

fails_next : (e : TextError) (read : Result (Part SavedParts) TextFault) → FailsText e read
    → FailsText e (read >>= λ saved. script_after (saved_first saved))
fails_next errors.OutOfMemory read h = tt
fails_next (errors.Fault f) read h = ap
    (λ (r : Result (Part SavedParts) TextFault). r >>= λ saved. script_after (saved_first saved)) h

pub text_fails : (e : TextError) (r : Record) (rest : List Record) → is_named (codes "history") r
    ≡ true → FailsText e (saved_of (r ∷ rest)) → FailsText e (run_script_of (r ∷ rest))
text_fails errors.OutOfMemory r rest named h = tt
text_fails (errors.Fault f) r rest named h =
    run_saved r rest named ∙ fails_next (errors.Fault f) (saved_of (r ∷ rest)) h

pub text_goes : (old new : SavedPlace) (i j : ℕ) (r : Record) (rest : List Record)
    → saved_left old i (r ∷ rest) ≡ saved_left new j rest
    → script_left (InSaved old i) (r ∷ rest) ≡ script_left (InSaved new j) rest
text_goes old new i j r rest h = ap (λ (read : Result (Part SavedParts) TextFault). read >>= λ
    saved. script_after (saved_first saved)) h

pub next_fails : (e : TextError) (old : SavedPlace) (i : ℕ) (r : Record) (rest : List Record) →
    FailsText e (saved_left old i (r ∷ rest)) → FailsText e (script_left (InSaved old i) (r ∷ rest))
next_fails e old i r rest h = fails_next e (saved_left old i (r ∷ rest)) h

-- the part that a text is, with what stands after it
abbrev whole_part : SavedParts → ℕ → List Record → Result (Part SavedParts) TextFault
whole_part parts i rest = Ok (record { value = parts; number = i; left = rest })

part_whole : (stage : SavedStage) (n tapes : ℕ) (parts : SavedParts) (i : ℕ) (rest : List Record)
    → is_last stage ≡ true → part_left stage n tapes parts i rest ≡ whole_part parts i rest
part_whole stages.Floors n tapes parts i rest h = absurd cc
part_whole stages.Tapes n tapes parts i rest h = absurd cc
part_whole stages.Damage n tapes parts i rest h = absurd cc
part_whole stages.Bars n tapes parts i rest h = absurd cc
part_whole stages.Rounds n tapes parts i rest h = absurd cc
part_whole stages.Nothing n tapes parts i rest h = refl

whole_left : (place : SavedPlace) (i : ℕ) (rest : List Record) → is_whole place ≡ true
    → saved_left place i rest ≡ whole_part place.parts i rest
whole_left place i rest h = part_whole place.stage _ place.tapes place.parts i rest h

-- what a text spells, where it spells something
abbrev parts_or : SavedParts → Result (Part SavedParts) TextFault → SavedParts
parts_or given (Ok part) = part.value
parts_or given (Err fault) = given

same_parts : (one other : SavedParts) (i : ℕ) → whole_part one i [] ≡ whole_part other i []
    → one ≡ other
same_parts one other i h = ap (parts_or one) h

-- what a whole text spells is what was taken
pub spelt_parts : (place : SavedPlace) (i : ℕ) (saved : SavedParts) → is_whole place ≡ true
    → saved_left place i [] ≡ whole_part saved i [] → Saved saved ≡ Saved place.parts
spelt_parts place i saved whole spelt =
    ap Saved (same_parts saved place.parts i (sym spelt ∙ whole_left place i [] whole))

pub no_missing : (place : SavedPlace) (i : ℕ) (fault : TextFault) → is_whole place ≡ true
    → saved_left place i [] ≡ Err fault → ⊥
no_missing place i fault whole missing = let there = whole_left place i [] whole in cc

-- a whole text, and its machine
pub text_ends : (place : SavedPlace) (machine : FirstMachine) (i first : ℕ) (rest : List Record)
    → is_whole place ≡ true → machine ≡ Saved place.parts → first ≡ i
    → script_left (InSaved place i) rest ≡ script_left (InCommands machine first []) rest
text_ends place machine i first rest whole is same =
    ap (λ (read : Result (Part SavedParts) TextFault). read >>= λ saved. script_after
    (saved_first saved)) (whole_left place i rest whole)
    ∙ script_begins (Saved place.parts) i rest
    ∙ ap (λ (m : FirstMachine). script_with m i [] rest) (sym is)
    ∙ ap (λ (k : ℕ). script_with machine k [] rest) (sym same)
