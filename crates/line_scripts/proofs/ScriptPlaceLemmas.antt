-- The text of a script that was read so far, and one piece further.
use Rattle.std.proofs.Common.{◌≡◌, ◌+◌, ◌&&◌, ℕ, Bool, true, false, List, [], ◌++◌, length, Option}
use Rattle.std.proofs.Common.{Some, None, Result, Ok, Err, refl, sym, ap, ◌∙◌, subst, inl, inr}
use Rattle.std.specs.Prelude.{is_some}
use Rattle.std.proofs.lemmas.Bool.{cases_Bool}
use Rattle.std.proofs.lemmas.List.{append-nil}
use Rattle.line_fields.specs.declared.faults.Fault.TheVariants as faults
use Rattle.line_fields.specs.Bytes.{is_input_text}
use Rattle.line_fields.specs.Fields.{◌>>=◌}
use Rattle.line_fields.specs.Records.{Record, records_of_text}
use Rattle.line_fields.proofs.TextLemmas.{empty_is_input, records_of_nothing}
use Rattle.line_claims.specs.declared.faults.TextFault.{TextFault}
use Rattle.line_claims.specs.Parts.{Part}
use Rattle.line_claims.specs.Readings.{EndsBefore}
use Rattle.line_claims.specs.Reads.{Reads, fault_of_record}
use Rattle.line_claims.specs.Saved.{SavedParts}
use Rattle.line_claims.specs.SavedReadings.{SavedPlace, is_whole}
use Rattle.line_claims.specs.Texts.{records_in}
use Rattle.line_claims.proofs.ApartLemmas.{input_before, records_before}
use Rattle.line_claims.proofs.SavedLemmas.{part_missing}
use Rattle.line_scripts.specs.declared.commands.Command.{Command}
use Rattle.line_scripts.specs.Pieces.{InCommands, InSaved, NothingTaken, ScriptPlace, script_left}
use Rattle.line_scripts.specs.Pieces.{script_text_left, unless_faulted}
use Rattle.line_scripts.specs.declared.scripts.KeptScript as kept
use Rattle.line_scripts.specs.Reads.{kept_script_view}
use Rattle.line_scripts.specs.RunScripts.{FirstMachine, RunScript, processes_of, run_script_of_text}
use Rattle.line_scripts.specs.RunScripts.{saved_first, script_after, script_of_machine}
use Rattle.line_scripts.specs.Scripts.{commands_from}
use Rattle.line_scripts.proofs.RunScriptLemmas.{made_with, run_none}

-- nothing was taken
pub nothing_taken : (text : List ℕ) → script_text_left
    (record { taken = NothingTaken; fault = None }) text ≡ run_script_of_text text
unfolding script_text_left run_script_of_text
nothing_taken text = refl

-- ---- a piece

-- a byte that no text has
abbrev bad_byte : TextFault
bad_byte = fault_of_record 0 faults.BadRecord

-- that fault comes before all else
bad_stays : (place : ScriptPlace) (text : List ℕ) → place.fault ≡ Some bad_byte
    → script_text_left place text ≡ Err bad_byte
unfolding script_text_left
bad_stays place text is =
    elim (cases_Bool (is_input_text text)) [ inl e ↦ rw (e, is) refl | inr e ↦ rw e refl ]

bad_text : (place : ScriptPlace) (text : List ℕ) → is_input_text text ≡ false
    → script_text_left place text ≡ Err bad_byte
unfolding script_text_left
bad_text place text bad = rw bad refl

pub bad_piece : (old new : ScriptPlace) (piece rest : List ℕ) → EndsBefore piece rest
    → is_input_text piece ≡ false → new.fault ≡ Some bad_byte
    → script_text_left old (piece ++ rest) ≡ script_text_left new rest
bad_piece old new piece rest ends bad is =
    bad_text old (piece ++ rest) (input_before piece rest ends ∙ ap
    (λ (b : Bool). b && is_input_text rest) bad) ∙ sym (bad_stays new rest is)

-- the records of a piece stand before those behind it
behind_piece : (place : ScriptPlace) (piece rest : List ℕ) → EndsBefore piece rest
    → is_input_text piece ≡ true
    → script_text_left place (piece ++ rest) ≡ (records_in rest >>= λ records. unless_faulted
    place.fault (script_left place.taken (records_of_text piece ++ records)))
unfolding script_text_left
behind_piece place piece rest ends plain =
    let both : is_input_text (piece ++ rest) ≡ is_input_text rest = input_before piece rest ends ∙
    ap (λ (b : Bool). b && is_input_text rest) plain in
    let joined : records_of_text (piece ++ rest)
    ≡ records_of_text piece ++ records_of_text rest = records_before piece rest ends in
    elim (cases_Bool (is_input_text rest))
    [ inl e ↦ rw (both, e, joined) refl | inr e ↦ rw (both, e) refl ]

next_same : (read : Result (List Record) TextFault)
    (old new : List Record → Result RunScript TextFault)
    → ((records : List Record) → old records ≡ new records) → (read >>= old) ≡ (read >>= new)
next_same (Ok records) old new same = same records
next_same (Err fault) old new same = refl

pub none_of : (fault : Option TextFault) → is_some fault ≡ false → fault ≡ None
none_of None off = refl
none_of (Some fault) off = cc off

-- a piece without fault was taken
pub piece_taken : (old new : ScriptPlace) (piece rest : List ℕ) → EndsBefore piece rest
    → is_input_text piece ≡ true → old.fault ≡ None → new.fault ≡ None
    → ((records : List Record)
    → script_left old.taken (records_of_text piece ++ records) ≡ script_left new.taken records)
    → script_text_left old (piece ++ rest) ≡ script_text_left new rest
unfolding script_text_left
piece_taken old new piece rest ends plain none still taken =
    behind_piece old piece rest ends plain
    ∙ next_same (records_in rest) _ _ (λ records. rw (none, still) (taken records))

-- it had the first fault
pub piece_refused : (old new : ScriptPlace) (fault : TextFault) (piece rest : List ℕ)
    → EndsBefore piece rest → is_input_text piece ≡ true → old.fault ≡ None → new.fault ≡ Some fault
    → ((records : List Record)
    → script_left old.taken (records_of_text piece ++ records) ≡ Err fault)
    → script_text_left old (piece ++ rest) ≡ script_text_left new rest
unfolding script_text_left
piece_refused old new fault piece rest ends plain none is refused =
    behind_piece old piece rest ends plain
    ∙ next_same (records_in rest) _ _ (λ records. rw (none, is) (refused records))

either_way : (fault : Option TextFault) (read other : Result RunScript TextFault)
    → is_some fault ≡ true → unless_faulted fault read ≡ unless_faulted fault other
either_way (Some fault) read other some = refl
either_way None read other some = cc some

-- there was a fault before
pub fault_stays : (place : ScriptPlace) (piece rest : List ℕ) → EndsBefore piece rest
    → is_input_text piece ≡ true → is_some place.fault ≡ true
    → script_text_left place (piece ++ rest) ≡ script_text_left place rest
unfolding script_text_left
fault_stays place piece rest ends plain some =
    behind_piece place piece rest ends plain
    ∙ next_same (records_in rest) _ _ (λ records. either_way place.fault _ _ some)

-- ---- the end

text_ended : (place : ScriptPlace)
    → script_text_left place [] ≡ unless_faulted place.fault (script_left place.taken [])
unfolding script_text_left
text_ended place = rw (empty_is_input, records_of_nothing) refl

pub told_fault : (place : ScriptPlace) (fault : TextFault) → place.fault ≡ Some fault
    → script_text_left place [] ≡ Err fault
told_fault place fault is = text_ended place ∙ ap
    (λ (f : Option TextFault). unless_faulted f (script_left place.taken [])) is

told_rest : (place : ScriptPlace) → place.fault ≡ None
    → script_text_left place [] ≡ script_left place.taken []
told_rest place none = text_ended place ∙ ap
    (λ (f : Option TextFault). unless_faulted f (script_left place.taken [])) none

no_commands : (n i : ℕ) → commands_from n i [] ≡ Ok []
unfolding commands_from
no_commands n i = refl

-- with the commands so far
pub told_script : (place : ScriptPlace) (machine : FirstMachine) (first : ℕ)
    (commands : List Command) → place.fault ≡ None → place.taken ≡ InCommands machine first commands
    → script_text_left place [] ≡ Ok (script_of_machine machine first commands)
told_script place machine first commands none is =
    told_rest place none ∙ ap (λ taken. script_left taken []) is
    ∙ ap (λ (read : Result (List Command) TextFault). made_with machine first (read >>= λ others. Ok
    (commands ++ others))) (no_commands (processes_of machine) (length commands + first))
    ∙ ap (λ (all : List Command). Ok (script_of_machine machine first all)) (append-nil commands)

-- within the text of a saved machine
pub told_open : (place : ScriptPlace) (saved : SavedPlace) (number : ℕ) → place.fault ≡ None
    → place.taken ≡ InSaved saved number → is_whole saved ≡ false
    → script_text_left place [] ≡ Err (fault_of_record number faults.BadRecord)
told_open place saved number none is more =
    told_rest place none ∙ ap (λ taken. script_left taken []) is
    ∙ ap (λ (read : Result (Part SavedParts) TextFault). read >>= λ saved. script_after
    (saved_first saved))
    (part_missing saved.stage (length saved.parts.history) saved.tapes saved.parts number more)

-- before anything
pub told_nothing : (place : ScriptPlace) → place.fault ≡ None → place.taken ≡ NothingTaken
    → script_text_left place [] ≡ Err (fault_of_record 1 faults.NoWorld)
told_nothing place none is = told_rest place none ∙ ap (λ taken. script_left taken []) is ∙ run_none

-- a text that was taken whole
pub reads_whole : (result : Result kept.KeptScript TextFault) (old new : ScriptPlace)
    (text : List ℕ) → ((text : List ℕ) → script_text_left old text ≡ run_script_of_text text)
    → script_text_left old (text ++ []) ≡ script_text_left new []
    → Reads kept_script_view result (script_text_left new [])
    → Reads kept_script_view result (run_script_of_text text)
reads_whole result old new text none taken read =
    let whole : script_text_left new [] ≡ run_script_of_text text = sym taken ∙ none
    (text ++ []) ∙ ap run_script_of_text (append-nil text) in
    subst (λ (r : Result RunScript TextFault). Reads kept_script_view result r) whole read
