-- Inputs that are scripts, and records with a fault.
use Rattle.std.proofs.Common.{◌≡◌, ◌≢◌, ℕ, ◌+◌, Bool, true, false, cond, List, [], ◌∷◌, ◌++◌}
use Rattle.std.proofs.Common.{length, refl, sym, ap, ◌∙◌, subst}
use Rattle.std.specs.Prelude.{None, Some, Result, Ok, Err, map, if◌then◌else◌}
use Rattle.std.specs.List.{flat_map}
use Rattle.std.proofs.lemmas.List.{length-replicate}
use Rattle.line_text.specs.Answers.{CommandAnswer, Tells, TellsAll, is_refused}
use Rattle.line_text.specs.Answers.{command_answer_records}
use Rattle.line_claims.specs.declared.faults.TextError.{TextError}
use Rattle.line_claims.specs.declared.faults.TextFault.{TextFault}
use Rattle.line_claims.specs.Reads.{at_record}
use Rattle.line_text.specs.declared.outcomes.Outcome.{Outcome}
use Rattle.line_text.specs.declared.outcomes.Outcome.TheVariants as outcomes
use Rattle.line_text.specs.Conversations.{records_of}
use Rattle.line_text.specs.Rules.{HearsAll, worse, worst}
use Rattle.line_text.proofs.HeardLemmas.{worse_faulted}
use Rattle.line_fields.specs.declared.faults.Fault.{Fault}
use Rattle.line_fields.specs.declared.faults.ReadError.{ReadError}
use Rattle.line_fields.specs.Bytes.{is_input_text}
use Rattle.line_fields.specs.Fields.{◌>>=◌}
use Rattle.line_fields.specs.Records.{Record, records_of_text}
use Rattle.line_tape.specs.declared.modes.Mode.{Mode}
use Rattle.line_scripts.specs.declared.commands.Command.{Command}
use Rattle.line_scripts.specs.Scripts.{Script, command_in, commands_from, script_of, script_of_text}
use Rattle.line_scripts.specs.Scripts.{world_of}
use Rattle.line_service.specs.Services.{ServiceAnswer, Began, Dropped, Faulted, Replied}
use Rattle.line_service.specs.Services.{ServiceState, Empty, Has, Reads, Hears, IsRunOf}
use Rattle.line_service.specs.Services.{service_answer_records, outcome_of, service_rules}
use Rattle.line_service.specs.Services.{without_text}
use Rattle.line_service.proofs.TextLemmas.{start_world}
use Rattle.line_service.proofs.LengthLemmas.{length_told}
use Rattle.line_live.specs.Lives.{LiveMachine, start_live}

-- ---- faults

pub same_behind_fault : (old new : ServiceState) (one : Result Record Fault) (error : ReadError)
    → Hears old one (Faulted error) new → new ≡ without_text old
same_behind_fault Empty new one error h = h.1
same_behind_fault (Reads place number) new one error h = h.1
same_behind_fault (Has machine) new one error h = h.1

pub none_behind_drop : (old new : ServiceState) (one : Result Record Fault) (error : TextError)
    → Hears old one (Dropped error) new → new ≡ Empty
none_behind_drop Empty new one error h = h.1
none_behind_drop (Reads place number) new one error h = h.3
none_behind_drop (Has machine) new one error h = absurd h

-- ---- outcomes

stays_faulted : (answers : List ServiceAnswer)
    → worst service_rules outcomes.Faulted answers ≡ outcomes.Faulted
stays_faulted [] = refl
stays_faulted (one ∷ answers) = stays_faulted answers

-- behind a fault the outcome is the worst
pub faulted_first : (outcome : Outcome) (error : ReadError) (answers : List ServiceAnswer)
    → worst service_rules outcome (Faulted error ∷ answers) ≡ outcomes.Faulted
faulted_first outcome error answers = ap (λ (o : Outcome). worst service_rules o answers)
    (worse_faulted outcome) ∙ stays_faulted answers

pub dropped_first : (outcome : Outcome) (error : TextError) (answers : List ServiceAnswer)
    → worst service_rules outcome (Dropped error ∷ answers) ≡ outcomes.Faulted
dropped_first outcome error answers = ap (λ (o : Outcome). worst service_rules o answers)
    (worse_faulted outcome) ∙ stays_faulted answers

-- no fault so far, and none of what commands are told
told_outcome : (refused : Bool) → cond refused outcomes.Refused outcomes.Done ≢ outcomes.Faulted
told_outcome true e = cc
told_outcome false e = cc

worse_both : (one other : Outcome) → one ≢ outcomes.Faulted → other ≢ outcomes.Faulted
    → worse one other ≢ outcomes.Faulted
worse_both outcomes.Done other a b = b
worse_both outcomes.Refused outcomes.Done a b = a
worse_both outcomes.Refused outcomes.Refused a b = a
worse_both outcomes.Refused outcomes.Faulted a b = b
worse_both outcomes.Faulted other a b = absurd (a refl)

told_never_faulted : (outcome : Outcome) (told : List CommandAnswer) → outcome ≢ outcomes.Faulted
    → worst service_rules outcome (map Replied told) ≢ outcomes.Faulted
told_never_faulted outcome [] good = good
told_never_faulted outcome (one ∷ told) good = told_never_faulted
    (worse outcome (outcome_of (Replied one))) told
    (worse_both outcome (outcome_of (Replied one)) good (told_outcome (is_refused one)))

-- ---- texts

pub texts_alike : (told : List CommandAnswer)
    → flat_map service_answer_records (map Replied told) ≡ flat_map command_answer_records told
texts_alike [] = refl
texts_alike (one ∷ told) =
    ap (λ (rs : List Record). command_answer_records one ++ rs) (texts_alike told)

-- ---- the commands of a script

-- records that spell commands, and what these are told
numbered_ok : {A : Type 0} (i : ℕ) (read : Result A Fault) (x : A) → at_record i read ≡ Ok x
    → read ≡ Ok x
numbered_ok i (Ok y) x h = cc
numbered_ok i (Err fault) x h = cc

-- what the first of some records spells, and the others
record IsSpelt (n i : ℕ) (first : Record) (rest : List Record)
    (commands : List Command) : Type 0 where
  command : Command
  others : List Command
  all : commands ≡ command ∷ others
  spelt : command_in n first ≡ Ok command
  rest_are : commands_from n (i + 1) rest ≡ Ok others

spelt_in : (n i : ℕ) (first : Record) (rest : List Record) (commands : List Command)
    (one : Result Command Fault) (more : Result (List Command) TextFault) → command_in n first ≡ one
    → commands_from n (i + 1) rest ≡ more
    → (at_record i one >>= λ command. more >>= λ others. Ok (command ∷ others)) ≡ Ok commands
    → IsSpelt n i first rest commands
spelt_in n i first rest commands (Ok command) (Ok others) is are h =
    record { command = command; others = others; all = cc; spelt = is; rest_are = are }
spelt_in n i first rest commands (Ok command) (Err fault) is are h = absurd cc
spelt_in n i first rest commands (Err fault) more is are h = absurd cc

first_spelt : (n i : ℕ) (first : Record) (rest : List Record) (commands : List Command)
    → commands_from n i (first ∷ rest) ≡ Ok commands → IsSpelt n i first rest commands
unfolding commands_from
first_spelt n i first rest commands h =
    spelt_in n i first rest commands (command_in n first) (commands_from n (i + 1) rest) refl refl h

none_spelt : (n i : ℕ) (commands : List Command) → commands_from n i [] ≡ Ok commands
    → commands ≡ []
unfolding commands_from
none_spelt n i commands h = cc

-- records as they are heard
abbrev pub heard_records : List Record → List (Result Record Fault)
heard_records records = map Ok records

command_at : (machine : LiveMachine) (n : ℕ) (r : Record) (command : Command)
    → n ≡ length machine.kept.history → command_in n r ≡ Ok command
    → command_in (length machine.kept.history) r ≡ Ok command
command_at machine n r command is h = subst (λ (m : ℕ). command_in m r ≡ Ok command) is h

-- what commands are told is heard
told_none : (old new : LiveMachine) (told : List CommandAnswer) → TellsAll old [] told new
    → HearsAll service_rules (Has old) [] (map Replied told) (Has new)
told_none old new [] run = ap Has run
told_none old new (one ∷ told) run = absurd run

told_heard : (n i : ℕ) (records : List Record) (commands : List Command) (old new : LiveMachine)
    (told : List CommandAnswer) → n ≡ length old.kept.history
    → commands_from n i records ≡ Ok commands → TellsAll old commands told new
    → HearsAll service_rules (Has old) (heard_records records) (map Replied told) (Has new)
told_heard n i [] commands old new told is spelt run = told_none old new told
    (subst (λ (cs : List Command). TellsAll old cs told new) (none_spelt n i commands spelt) run)
told_heard n i (r ∷ records) commands old new [] is spelt run =
    let first = first_spelt n i r records commands spelt in
    let none : TellsAll old (first.command ∷ first.others) [] new = subst
    (λ (cs : List Command). TellsAll old cs [] new) first.all run in
    absurd none
told_heard n i (r ∷ records) commands old new (one ∷ told) is spelt run =
    let first = first_spelt n i r records commands spelt in
    let k : TellsAll old (first.command ∷ first.others) (one ∷ told) new = subst
    (λ (cs : List Command). TellsAll old cs (one ∷ told) new) first.all run in (
      Has k.0,
      (first.command, command_at old n r first.command is first.spelt, k.0, k.1, refl),
      told_heard n (i + 1) records first.others k.0 new told
          (is ∙ sym (length_told old first.command one k.0 k.1)) first.rest_are k.2,
    )

-- commands are told these, which are the answers
pub record IsTold (old : LiveMachine) (commands : List Command) (answers : List ServiceAnswer)
    (new : ServiceState) : Type 0 where
  pub told : List CommandAnswer
  pub end : LiveMachine
  pub answers_are : answers ≡ map Replied told
  pub new_is : new ≡ Has end
  pub run : TellsAll old commands told end

-- what is heard without a fault is what commands are told
pub heard_told : (n i : ℕ) (records : List Record) (commands : List Command) (old : LiveMachine)
    (new : ServiceState) (answers : List ServiceAnswer) (outcome : Outcome)
    → n ≡ length old.kept.history
    → commands_from n i records ≡ Ok commands
    → HearsAll service_rules (Has old) (heard_records records) answers new
    → worst service_rules outcome answers ≢ outcomes.Faulted → IsTold old commands answers new
heard_told n i [] commands old new [] outcome is spelt heard good =
    record {
      told = [];
      end = old;
      answers_are = refl;
      new_is = heard;
      run = subst
          (λ (cs : List Command). TellsAll old cs [] old)
          (sym (none_spelt n i commands spelt)) refl;
    }
heard_told n i [] commands old new (one ∷ answers) outcome is spelt heard good = absurd heard
heard_told n i (r ∷ records) commands old new [] outcome is spelt heard good = absurd heard
heard_told n i (r ∷ records) commands old new (Began ∷ answers) outcome is spelt heard good =
    absurd heard.1
heard_told n i (r ∷ records) commands old new
    (Dropped error ∷ answers) outcome is spelt heard good =
    absurd heard.1
heard_told n i (r ∷ records) commands old new
    (Faulted error ∷ answers) outcome is spelt heard good =
    absurd (good (faulted_first outcome error answers))
heard_told n i (r ∷ records) commands old new (Replied one ∷ answers) outcome is spelt
    (mid, (command, read, later, tells, mid_is), heard) good =
    let first = first_spelt n i r records commands spelt in
    let same : command
    ≡ first.command = let there = command_at old n r first.command is first.spelt in cc in
    let told : Tells old first.command one later = subst
    (λ (c : Command). Tells old c one later) same tells in
    let k = heard_told n (i + 1) records first.others later new answers (worse outcome (outcome_of
    (Replied one))) (is ∙ sym (length_told old first.command one later told)) first.rest_are
    (subst (λ (m : ServiceState). HearsAll service_rules m (heard_records records) answers new)
    mid_is heard) good in
    record {
      told = one ∷ k.told;
      end = k.end;
      answers_are = ap (λ (these : List ServiceAnswer). Replied one ∷ these) k.answers_are;
      new_is = k.new_is;
      run = subst (λ (cs : List Command). TellsAll old cs (one ∷ k.told) k.end) (sym first.all)
          (later, told, k.run);
    }

-- ---- a script

-- the records of a text that spells a script
record IsScriptOf (records : List Record) (script : Script) : Type 0 where
  first : Record
  rest : List Record
  records_are : records ≡ first ∷ rest
  began : world_of first ≡ Ok (script.n, script.mode)
  commands_are : commands_from script.n 2 rest ≡ Ok script.commands

-- the number of processes and how links deliver, as a first record that is good says
abbrev good_world : ℕ → Mode → Result (ℕ × Mode) Fault
good_world n mode = Ok (n, mode)

script_rest : (n : ℕ) (mode : Mode) (commands_of : ℕ → Result (List Command) TextFault)
    (read : Result (List Command) TextFault) (script : Script) → commands_of n ≡ read
    → (read >>= λ commands. Ok (record { n = n; mode = mode; commands = commands })) ≡ Ok script
    → (good_world n mode ≡ good_world script.n script.mode)
    × (commands_of script.n ≡ Ok script.commands)
script_rest n mode commands_of (Ok commands) script is h =
    let made : Script = record { n = n; mode = mode; commands = commands } in
    let same : made ≡ script = cc in (
      ap (λ (s : Script). good_world s.n s.mode) same,
      subst
          (λ (s : Script). commands_of s.n ≡ Ok s.commands) same is,
    )
script_rest n mode commands_of (Err fault) script is h = absurd cc

script_made : (world : Result (ℕ × Mode) Fault) (commands_of : ℕ → Result (List Command) TextFault)
    (script : Script)
    → (at_record 1 world >>= λ w. commands_of w.0 >>= λ commands. Ok
    (record { n = w.0; mode = w.1; commands = commands })) ≡ Ok script
    → (world ≡ Ok (script.n, script.mode)) × (commands_of script.n ≡ Ok script.commands)
script_made (Ok w) commands_of script h =
    script_rest w.0 w.1 commands_of (commands_of w.0) script refl h
script_made (Err fault) commands_of script h = absurd cc

script_parts : (records : List Record) (script : Script) → script_of records ≡ Ok script
    → IsScriptOf records script
unfolding script_of
script_parts [] script h = absurd cc
script_parts (first ∷ rest) script h =
    let made = script_made (world_of first) (λ (n : ℕ). commands_from n 2 rest) script h in
    record { first = first; rest = rest; records_are = refl; began = made.0; commands_are = made.1 }

script_if : (allowed : Bool) (records : List Record) (fault : TextFault) (script : Script)
    → ((if allowed then Ok records else Err fault) >>= script_of) ≡ Ok script
    → (allowed ≡ true) × (script_of records ≡ Ok script)
script_if true records fault script h = (refl, h)
script_if false records fault script h = absurd cc

spelt_script : (text : List ℕ) (script : Script) → script_of_text text ≡ Ok script
    → (is_input_text text ≡ true) × IsScriptOf (records_of_text text) script
unfolding script_of_text
spelt_script text script h = let parts = script_if (is_input_text text) (records_of_text text) _
    script h in (parts.0, script_parts (records_of_text text) script parts.1)

pub spelt_allowed : (text : List ℕ) (script : Script) → script_of_text text ≡ Ok script
    → is_input_text text ≡ true
spelt_allowed text script h = (spelt_script text script h).0

start_long : (n : ℕ) (mode : Mode) → n ≡ length (start_live n mode).kept.history
start_long n mode = sym (length-replicate n _)

-- its records are answered as it is run
pub served_as_run : (text : List ℕ) (script : Script) (answers : List ServiceAnswer)
    (new : ServiceState) → script_of_text text ≡ Ok script
    → records_of text ≡ heard_records (records_of_text text)
    → IsRunOf script answers new → HearsAll service_rules Empty (records_of text) answers new
served_as_run text script answers new spelt heard h =
    let parts = (spelt_script text script spelt).1 in
    let first : LiveMachine = start_live script.n script.mode in
    let run : HearsAll service_rules Empty (heard_records (parts.first ∷ parts.rest))
    (Began ∷ map Replied h.told) (Has h.end) = (
      Has first,
      (
        Some (script.n, script.mode),
        start_world parts.first
            (script.n, script.mode) parts.began,
        refl,
      ),
      told_heard script.n 2 parts.rest script.commands first h.end h.told
          (start_long script.n script.mode) parts.commands_are h.run,
    ) in
    let P : List (Result Record Fault) → List ServiceAnswer → ServiceState
    → Type 0 = λ rs these m. HearsAll service_rules Empty rs these m in
    subst (λ (m : ServiceState). P (records_of text) answers m) (sym h.new_is)
    (subst (λ (these : List ServiceAnswer). P (records_of text) these (Has h.end))
    (sym h.answers_are)
    (subst (λ (rs : List (Result Record Fault)). P rs (Began ∷ map Replied h.told) (Has h.end))
    (sym (heard ∙ ap heard_records parts.records_are)) run))

pub good_as_run : (script : Script) (answers : List ServiceAnswer) (new : ServiceState)
    → IsRunOf script answers new → worst service_rules outcomes.Done answers ≢ outcomes.Faulted
good_as_run script answers new h bad =
    told_never_faulted outcomes.Done h.told (λ e. cc) (ap (λ (these : List ServiceAnswer). worst
    service_rules outcomes.Done these) (sym h.answers_are) ∙ bad)

began_first : (script : Script) (first : Record) (rest : List Record) (answers : List ServiceAnswer)
    (new : ServiceState) → world_of first ≡ Ok (script.n, script.mode)
    → commands_from script.n 2 rest ≡ Ok script.commands
    → HearsAll service_rules Empty (heard_records (first ∷ rest)) answers new
    → worst service_rules outcomes.Done answers ≢ outcomes.Faulted → IsRunOf script answers new
began_first script first rest [] new began commands heard good = absurd heard
began_first script first rest (Faulted error ∷ answers) new began commands heard good =
    absurd (good (faulted_first outcomes.Done error answers))
began_first script first rest (Replied told ∷ answers) new began commands heard good =
    absurd heard.1
began_first script first rest (Dropped error ∷ answers) new began commands heard good =
    absurd (good (dropped_first outcomes.Done error answers))
began_first script first rest (Began ∷ answers) new began commands
    (mid, (None, read, by), heard) good =
    let there = start_world first (script.n, script.mode) began in absurd cc
began_first script first rest (Began ∷ answers) new began commands
    (mid, (Some world, read, mid_is), heard) good =
    let same : world ≡ (script.n, script.mode) = let there = start_world first
    (script.n, script.mode) began in cc in
    let there : mid ≡ Has (start_live script.n script.mode) = mid_is ∙ ap
    (λ (w : ℕ × Mode). Has (start_live w.0 w.1)) same in
    let k = heard_told script.n 2 rest script.commands (start_live script.n script.mode) new answers
    outcomes.Done (start_long script.n script.mode) commands
    (subst (λ (m : ServiceState). HearsAll service_rules m (heard_records rest) answers new) there
    heard) good in
    record {
      told = k.told;
      end = k.end;
      run = k.run;
      answers_are = ap
          (λ (these : List ServiceAnswer). Began ∷ these) k.answers_are;
      new_is = k.new_is;
    }

pub run_as_served : (text : List ℕ) (script : Script) (answers : List ServiceAnswer)
    (new : ServiceState) → script_of_text text ≡ Ok script
    → records_of text ≡ heard_records (records_of_text text)
    → HearsAll service_rules Empty (records_of text) answers new
    → worst service_rules outcomes.Done answers ≢ outcomes.Faulted → IsRunOf script answers new
run_as_served text script answers new spelt heard served good =
    let parts = (spelt_script text script spelt).1 in
    began_first script parts.first parts.rest answers new parts.began parts.commands_are
    (subst (λ (rs : List (Result Record Fault)). HearsAll service_rules Empty rs answers new)
    (heard ∙ ap heard_records parts.records_are) served) good
