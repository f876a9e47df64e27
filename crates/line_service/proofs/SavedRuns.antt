-- A script that begins with a saved machine, and is served.
use Rattle.std.proofs.Common.{◌≡◌, ◌≢◌, ℕ, zero, suc, ◌+◌, ◌-◌, Bool, true, false, List, [], ◌∷◌}
use Rattle.std.proofs.Common.{◌++◌, length, replicate, refl, sym, ap, ◌∙◌, inl, inr, subst, arith}
use Rattle.std.specs.Prelude.{None, Some, Result, Ok, Err, codes, map, if◌then◌else◌}
use Rattle.std.specs.List.{flat_map}
use Rattle.std.proofs.lemmas.Bool.{cases_Bool}
use Rattle.line_text.specs.Answers.{CommandAnswer, TellsAll, command_answer_records}
use Rattle.line_text.specs.Openings.{opened}
use Rattle.line_claims.specs.declared.faults.TextFault.{TextFault}
use Rattle.line_claims.specs.Parts.{Part, is_named}
use Rattle.line_claims.specs.Reads.{at_record, fault_of_record}
use Rattle.line_claims.specs.Saved.{SavedParts, saved_of}
use Rattle.line_claims.specs.SavedReadings.{SavedPlace, is_whole, saved_left}
use Rattle.line_claims.proofs.SavedLemmas.{part_missing}
use Rattle.line_text.specs.declared.outcomes.Outcome.{Outcome}
use Rattle.line_text.specs.declared.outcomes.Outcome.TheVariants as outcomes
use Rattle.line_text.specs.Conversations.{records_of}
use Rattle.line_text.specs.Rules.{HearsAll, worse, worst}
use Rattle.line_fields.specs.declared.faults.Fault.{Fault}
use Rattle.line_fields.specs.declared.faults.Fault.TheVariants as faults
use Rattle.line_fields.specs.Bytes.{is_input_text}
use Rattle.line_fields.specs.Fields.{◌>>=◌}
use Rattle.line_fields.specs.Records.{Record, records_of_text}
use Rattle.line_live.specs.Lives.{LiveMachine}
use Rattle.line_scripts.specs.declared.commands.Command.{Command}
use Rattle.line_scripts.specs.RunScripts.{New, Saved, RunScript, new_first, run_script_of}
use Rattle.line_scripts.specs.RunScripts.{run_script_of_text, saved_first, script_after}
use Rattle.line_scripts.specs.RunScripts.{script_of_machine}
use Rattle.line_scripts.specs.Scripts.{commands_from, world_of}
use Rattle.line_scripts.proofs.RunScriptLemmas.{run_none, run_saved, run_world}
use Rattle.line_tape.specs.declared.modes.Mode.{Mode}
use Rattle.line_service.specs.Services.{ServiceAnswer, Began, Dropped, Faulted, Replied}
use Rattle.line_service.specs.Services.{ServiceState, Empty, Has, Reads, IsSavedRunOf, outcome_of}
use Rattle.line_service.specs.Services.{service_answer_records, service_rules}
use Rattle.line_service.proofs.LawLemmas.{dropped_first, faulted_first, heard_records, heard_told}
use Rattle.line_service.proofs.LawLemmas.{texts_alike}
use Rattle.line_service.proofs.SavedLaws.{head_named, never_both, no_records, same_part}
use Rattle.line_service.proofs.TextLemmas.{start_text}

-- ---- what a script that begins with a saved machine spells

-- the saved machine that records begin with, and the commands after it
record IsSavedScript (records : List Record) (script : RunScript)
    (parts : SavedParts) : Type 0 where
  saved : Part SavedParts
  spelt : saved_of records ≡ Ok saved
  value_is : saved.value ≡ parts
  first_is : saved.number ≡ script.first
  commands_are : commands_from (length saved.value.history) saved.number saved.left
      ≡ Ok script.commands

-- commands that were read
abbrev read_commands : List Command → Result (List Command) TextFault
read_commands commands = Ok commands

saved_commands : (records : List Record) (saved : Part SavedParts)
    (read : Result (List Command) TextFault) (script : RunScript) (parts : SavedParts)
    → saved_of records ≡ Ok saved
    → commands_from (length saved.value.history) saved.number saved.left ≡ read
    → (read >>= λ commands. Ok (script_of_machine (Saved saved.value) saved.number commands))
    ≡ Ok script → script.machine ≡ Saved parts → IsSavedScript records script parts
saved_commands records saved (Ok commands) script parts spelt is h machine =
    let same : script_of_machine (Saved saved.value) saved.number commands ≡ script = cc in
    let first : Saved saved.value
    ≡ Saved parts = ap (λ (s : RunScript). s.machine) same ∙ machine in
    record {
      saved = saved;
      spelt = spelt;
      value_is = cc;
      first_is = ap (λ (s : RunScript). s.first)
          same;
      commands_are = is ∙ ap (λ (s : RunScript). read_commands s.commands) same;
    }
saved_commands records saved (Err fault) script parts spelt is h machine = absurd cc

saved_script : (records : List Record) (read : Result (Part SavedParts) TextFault)
    (script : RunScript) (parts : SavedParts) → saved_of records ≡ read
    → (read >>= λ saved. script_after (saved_first saved)) ≡ Ok script
    → script.machine ≡ Saved parts → IsSavedScript records script parts
saved_script records (Ok saved) script parts spelt h machine = saved_commands records saved
    (commands_from (length saved.value.history) saved.number saved.left) script parts spelt refl h
    machine
saved_script records (Err fault) script parts spelt h machine = absurd cc

new_commands : (n : ℕ) (mode : Mode) (read : Result (List Command) TextFault) (script : RunScript)
    (parts : SavedParts) → (read >>= λ commands. Ok (script_of_machine (New n mode) 2 commands))
    ≡ Ok script → script.machine ≡ Saved parts → ⊥
new_commands n mode (Ok commands) script parts h machine =
    let same : script_of_machine (New n mode) 2 commands ≡ script = cc in
    let first : New n mode ≡ Saved parts = ap (λ (s : RunScript). s.machine) same ∙ machine in
    cc
new_commands n mode (Err fault) script parts h machine = cc

new_script : (read : Result (ℕ × Mode) TextFault) (rest : List Record) (script : RunScript)
    (parts : SavedParts) → (read >>= λ world. script_after (new_first rest world)) ≡ Ok script
    → script.machine ≡ Saved parts → ⊥
new_script (Ok world) rest script parts h machine =
    new_commands world.0 world.1 (commands_from world.0 2 rest) script parts h machine
new_script (Err fault) rest script parts h machine = cc

-- a script that was read
abbrev read_script : RunScript → Result RunScript TextFault
read_script script = Ok script

no_script : (fault : TextFault) (script : RunScript) → Err fault ≡ read_script script → ⊥
no_script fault script h = cc

run_parts : (records : List Record) (script : RunScript) (parts : SavedParts) → run_script_of
    records ≡ Ok script → script.machine ≡ Saved parts → IsSavedScript records script parts
run_parts [] script parts h machine =
    absurd (no_script (fault_of_record 1 faults.NoWorld) script (sym run_none ∙ h))
run_parts (first ∷ rest) script parts h machine =
    elim (cases_Bool (is_named (codes "history") first)) [
      | inl named ↦ saved_script (first ∷ rest) (saved_of (first ∷ rest)) script parts refl
          (sym (run_saved first rest named) ∙ h) machine
      | inr other ↦ absurd (new_script (at_record 1 (world_of first)) rest script parts
          (sym (run_world first rest other) ∙ h) machine)
    ]

run_if : (allowed : Bool) (records : List Record) (fault : TextFault) (script : RunScript)
    → ((if allowed then Ok records else Err fault) >>= run_script_of) ≡ Ok script
    → (allowed ≡ true) × (run_script_of records ≡ Ok script)
run_if true records fault script h = (refl, h)
run_if false records fault script h = absurd cc

pub run_spelt : (text : List ℕ) (script : RunScript) → run_script_of_text text ≡ Ok script
    → (is_input_text text ≡ true) × (run_script_of (records_of_text text) ≡ Ok script)
unfolding run_script_of_text
run_spelt text script h = run_if (is_input_text text) (records_of_text text) _ script h

-- ---- how it is served

-- the records of a saved machine from one of that number on were answered, and the commands after
-- them were told these
record IsServed (number last : ℕ) (first : LiveMachine) (commands : List Command)
    (answers : List ServiceAnswer) (new : ServiceState) : Type 0 where
  count : ℕ
  reaches : number + count ≡ last
  told : List CommandAnswer
  end : LiveMachine
  answers_are : answers ≡ replicate count Began ++ map Replied told
  new_is : new ≡ Has end
  run : TellsAll first commands told end

opened_long : (parts : SavedParts) → length parts.history ≡ length (opened parts).kept.history
opened_long parts = refl

further : (number later last count : ℕ) → later ≡ number + 1 → later + count ≡ last
    → number + suc count ≡ last
further number later last count is h = omega arith

served_on : (place : SavedPlace) (number : ℕ) (records : List Record) (saved : Part SavedParts)
    (commands : List Command) (answers : List ServiceAnswer) (new : ServiceState)
    (outcome : Outcome) → is_whole place ≡ false
    → saved_left place number records ≡ Ok saved
    → commands_from (length saved.value.history) saved.number saved.left ≡ Ok commands
    → HearsAll service_rules (Reads place number) (heard_records records) answers new
    → worst service_rules outcome answers ≢ outcomes.Faulted
    → IsServed number saved.number (opened saved.value) commands answers new
served_on place number [] saved commands answers new outcome open' spelt next heard good =
    let missing : saved_left place number []
    ≡ Err (fault_of_record number faults.BadRecord) = part_missing place.stage
    (length place.parts.history) place.tapes place.parts number open' in
    absurd (never_both saved (fault_of_record number faults.BadRecord) (sym spelt ∙ missing))
served_on place number (r ∷ records) saved commands [] new outcome open' spelt next heard good =
    absurd heard
served_on place number (r ∷ records) saved commands
    (Faulted error ∷ answers) new outcome open' spelt next heard good =
    absurd (good (faulted_first outcome error answers))
served_on place number (r ∷ records) saved commands
    (Dropped error ∷ answers) new outcome open' spelt next heard good =
    absurd (good (dropped_first outcome error answers))
served_on place number (r ∷ records) saved commands
    (Replied told ∷ answers) new outcome open' spelt next heard good =
    absurd heard.1
served_on place number (r ∷ records) saved commands (Began ∷ answers) new outcome open' spelt next
    (Empty, (own, is, on), heard) good =
    absurd on
served_on place number (r ∷ records) saved commands (Began ∷ answers) new outcome open' spelt next
    (Reads there later, (own, is, on), heard) good =
    let same : r ≡ own = cc in
    let left : saved_left there later records ≡ Ok saved = sym (on.2 records) ∙ subst
    (λ (x : Record). saved_left place number (x ∷ records) ≡ Ok saved) same spelt in
    let k = served_on there later records saved commands answers new
    (worse outcome (outcome_of Began)) on.1 left next heard good in
    record {
      count = suc k.count;
      reaches = further number later saved.number k.count on.0
          k.reaches;
      told = k.told;
      end = k.end;
      answers_are = ap (λ
          (these : List ServiceAnswer). Began ∷ these) k.answers_are;
      new_is = k.new_is;
      run = k.run;
    }
served_on place number (r ∷ records) saved commands (Began ∷ answers) new outcome open' spelt next
    (Has live, (own, is, on), heard) good =
    let same : r ≡ own = cc in
    let made : Part SavedParts = record { value = on.0; number = number + 1; left = records } in
    let there : made ≡ saved = same_part made saved (sym (on.1 records) ∙ subst
    (λ (x : Record). saved_left place number (x ∷ records) ≡ Ok saved) same spelt) in
    let behind : commands_from (length on.0.history) (number + 1) records
    ≡ Ok commands = subst (λ (part : Part SavedParts). commands_from
    (length part.value.history) part.number part.left ≡ Ok commands) (sym there) next in
    let k = heard_told (length on.0.history) (number + 1) records commands (opened on.0) new answers
    (worse outcome (outcome_of Began)) (opened_long on.0) behind
    (subst (λ (machine : LiveMachine). HearsAll service_rules (Has machine)
    (heard_records records) answers new) on.2 heard) good in
    record {
      count = 1;
      reaches = ap (λ (part : Part SavedParts). part.number) there;
      told = k.told;
      end = k.end;
      answers_are = ap (λ (these : List ServiceAnswer). Began ∷ these) k.answers_are;
      new_is = k.new_is;
      run = subst (λ (part : Part SavedParts). TellsAll (opened part.value) commands k.told k.end)
          there k.run;
    }

-- how it is served from its first record on
served_first : (records : List Record) (saved : Part SavedParts) (commands : List Command)
    (answers : List ServiceAnswer) (new : ServiceState) → saved_of records ≡ Ok saved
    → commands_from (length saved.value.history) saved.number saved.left ≡ Ok commands
    → HearsAll service_rules Empty (heard_records records) answers new
    → worst service_rules outcomes.Done answers ≢ outcomes.Faulted
    → IsServed 1 saved.number (opened saved.value) commands answers new
served_first [] saved commands answers new spelt next heard good = absurd (no_records saved spelt)
served_first (first ∷ rest) saved commands [] new spelt next heard good = absurd heard
served_first (first ∷ rest) saved commands (Faulted error ∷ answers) new spelt next heard good =
    absurd (good (faulted_first outcomes.Done error answers))
served_first (first ∷ rest) saved commands (Dropped error ∷ answers) new spelt next heard good =
    absurd (good (dropped_first outcomes.Done error answers))
served_first (first ∷ rest) saved commands (Replied told ∷ answers) new spelt next heard good =
    absurd heard.1
served_first (first ∷ rest) saved commands (Began ∷ answers) new spelt next
    (mid, (Some world, read, by), heard) good =
    let there = start_text first (head_named first rest saved spelt) in absurd cc
served_first (first ∷ rest) saved commands (Began ∷ answers) new spelt next
    (mid, (None, read, by), heard) good =
    let same : first ≡ by.first = let is = by.is in cc in
    let there : saved_left by.place 2 rest ≡ Ok saved = sym (by.begun rest) ∙ subst
    (λ (x : Record). saved_of (x ∷ rest) ≡ Ok saved) same spelt in
    let k = served_on by.place 2 rest saved commands answers new
    (worse outcomes.Done (outcome_of Began)) by.unended there next
    (subst (λ (m : ServiceState). HearsAll service_rules m (heard_records rest) answers new)
    by.new_is heard) good in
    record {
      count = suc k.count;
      reaches = further 1 2 saved.number k.count refl k.reaches;
      told =
          k.told;
      end = k.end;
      answers_are = ap (λ (these : List ServiceAnswer). Began ∷ these)
          k.answers_are;
      new_is = k.new_is;
      run = k.run;
    }

one_less : (count number first : ℕ) → 1 + count ≡ number → number ≡ first → count ≡ first - 1
one_less count number first is same = omega arith

pub saved_run_served : (text : List ℕ) (script : RunScript) (parts : SavedParts)
    (answers : List ServiceAnswer) (new : ServiceState)
    → run_script_of (records_of_text text) ≡ Ok script → script.machine ≡ Saved parts
    → records_of text ≡ heard_records (records_of_text text)
    → HearsAll service_rules Empty (records_of text) answers new → worst service_rules
    outcomes.Done answers ≢ outcomes.Faulted → IsSavedRunOf parts script answers new
saved_run_served text script parts answers new spelt machine heard served good =
    let it = run_parts (records_of_text text) script parts spelt machine in
    let k = served_first
    (records_of_text text) it.saved script.commands answers new it.spelt it.commands_are
    (subst (λ (rs : List (Result Record Fault)). HearsAll service_rules Empty rs answers new)
    heard served) good in
    record {
      told = k.told;
      end = k.end;
      run = subst (λ (own : SavedParts). TellsAll (opened own) script.commands k.told k.end)
          it.value_is k.run;
      answers_are = k.answers_are ∙ ap (λ (n : ℕ). replicate n Began ++ map Replied k.told)
          (one_less k.count it.saved.number script.first k.reaches it.first_is);
      new_is = k.new_is;
    }

-- ---- the text of its answers

pub saved_texts_alike : (count : ℕ) (told : List CommandAnswer) → flat_map service_answer_records
    (replicate count Began ++ map Replied told) ≡ flat_map command_answer_records told
saved_texts_alike zero told = texts_alike told
saved_texts_alike (suc count) told = saved_texts_alike count told
