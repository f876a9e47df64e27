-- A script that is written is read again.
use Rattle.std.proofs.Common.{◌≡◌, ◌≤◌, ◌<◌, ℕ, ◌+◌, ◌^◌, true, List, [], ◌∷◌, ◌++◌, Bool, Some}
use Rattle.std.proofs.Common.{None, Result, Ok, refl, ap, ◌∙◌, arith, length, le-leb}
use Rattle.std.specs.Prelude.{codes, decimal, map}
use Rattle.std.specs.List.{AllByRecursion, list_all}
use Rattle.std.proofs.lemmas.Bool.{lt-ltb}
use Rattle.std.proofs.lemmas.List.Folds.{list_all-append}
use Rattle.line_names.specs.declared.limits.TheConstants.{MOST_BODY, MOST_PROCESSES}
use Rattle.line_fields.proofs.PlainLemmas.{plain_decimal, plain_hex}
use Rattle.line_fields.proofs.ReadAgain.{written_is_input, written_is_read}
use Rattle.line_fields.proofs.RoundLemmas.{hex_hex_text, num_decimal}
use Rattle.line_fields.specs.Fields.{◌>>=◌}
use Rattle.line_fields.specs.Records.{Record}
use Rattle.line_fields.specs.Shapes.{alone, two, three, four}
use Rattle.line_fields.specs.Texts.{hex_text, is_plain_field, is_written, records_text}
use Rattle.line_tape.specs.declared.modes.Mode.{Mode}
use Rattle.line_tape.specs.declared.modes.Mode.TheVariants.{Fifo, Unordered}
use Rattle.line_tape.specs.declared.steps.Step.TheVariants.{Send, Deliver, Check, Begin, Turn}
use Rattle.line_tape.specs.declared.steps.Step.TheVariants.{Damage, Bar, Recover}
use Rattle.line_tape.specs.declared.limits.TheConstants.{LAST_ROUND}
use Rattle.line_claims.specs.declared.versions.TheConstants.{LAST_VERSION}
use Rattle.line_claims.specs.Entries.{failed_of}
use Rattle.line_claims.specs.declared.faults.TextFault.{TextFault}
use Rattle.line_claims.specs.declared.versions.TheConstants.{LAST_CHECK_VERSION}
use Rattle.line_claims.specs.Parts.{Part}
use Rattle.line_claims.specs.Records.{history_record, members}
use Rattle.line_claims.specs.Saved.{SavedParts, saved_records}
use Rattle.line_claims.specs.SavedRanges.{IsSavedInRange}
use Rattle.line_claims.specs.Versions.{IsVersion, earliest_version, most_in}
use Rattle.line_claims.proofs.ClaimWrittenLemmas.{decimals_are_plain}
use Rattle.line_claims.proofs.EntryAgainLemmas.{failed_again, members_below}
use Rattle.line_claims.proofs.SavedAgainLemmas.{saved_again, saved_is_written}
use Rattle.line_claims.proofs.SpellLemmas.{plain_again, round_again}
use Rattle.line_claims.proofs.VersionLemmas.{earliest_has_room, earliest_is_known}
use Rattle.line_claims.proofs.WrittenLemmas.{byte_at}
use Rattle.line_scripts.specs.declared.commands.Command.{Command}
use Rattle.line_scripts.specs.declared.commands.Command.TheVariants.{Answer, Bundle, Do, Forget}
use Rattle.line_scripts.specs.declared.commands.Command.TheVariants.{History, Live, Plan, Refused}
use Rattle.line_scripts.specs.declared.commands.Command.TheVariants.{Rounds, Save}
use Rattle.line_scripts.specs.Ranges.{IsCommandInRange, IsScriptInRange, IsSetAmong, IsWithCheck}
use Rattle.line_scripts.specs.Ranges.{IsWithState}
use Rattle.line_scripts.specs.Records.{command_record, mode_text, saved_script_records}
use Rattle.line_scripts.specs.Records.{script_records, world_record}
use Rattle.line_scripts.specs.RunScripts.{Saved, run_script_of, run_script_of_text, saved_first}
use Rattle.line_scripts.specs.RunScripts.{script_after, script_of_machine}
use Rattle.line_scripts.specs.Scripts.{Script, command_in, commands_from, deliver_of, forget_of}
use Rattle.line_scripts.specs.Scripts.{mode_named, pick, script_of, script_of_text, send_of}
use Rattle.line_scripts.specs.Scripts.{with_check, with_failed, with_state, world_of}
use Rattle.line_scripts.proofs.FailedLemmas.{failed_found}
use Rattle.line_scripts.proofs.RunScriptLemmas.{run_saved}

mode_again : (mode : Mode) → mode_named (mode_text mode) ≡ Ok mode
mode_again Fifo = refl
mode_again Unordered = refl

world_again : (version n : ℕ) (mode : Mode) → IsVersion version → 1 ≤ n → n ≤ most_in version
    → n ≤ MOST_PROCESSES → world_of (world_record version n (mode_text mode)) ≡ Ok (n, mode)
unfolding world_of
world_again version n mode known some room few =
    let first : 1 ≤ version = known.0 in
    let last : version ≤ LAST_VERSION = known.1 in
    rw (
      plain_again version (omega arith),
      plain_again n
          (omega arith),
      le-leb 1 version first,
      le-leb version LAST_VERSION last,
      le-leb 1 n some,
      le-leb n (most_in version) room,
      mode_again mode,
    ) refl

pick_again : (picked : ℕ) → picked < 2 ^ 64 → pick (decimal picked) ≡ Ok picked
pick_again picked small =
    num_decimal 0 18446744073709551615 picked (omega arith) (omega arith) small

-- the processes of a set are read again, whatever the name before them
failed_set : (n : ℕ) (name : List ℕ) (command : List Bool → Command) (set : List Bool)
    → n ≤ MOST_PROCESSES → IsSetAmong n set
    → with_failed command n (name ∷ map decimal (members n set)) ≡ Ok (command set)
unfolding failed_of
failed_set n name command set few fit = failed_found command n
    (name ∷ map decimal (members n set)) set (failed_again n set few fit.whole fit.there)

command_again : (n : ℕ) (c : Command) → n ≤ MOST_PROCESSES → IsCommandInRange n c
    → command_in n (command_record n c) ≡ Ok c
unfolding command_in send_of deliver_of with_state with_check forget_of two three four alone
command_again n (Do (Send from to body)) few fit =
    let there : from < n = fit.0 in
    let at : to < n = fit.1 in
    rw (
      plain_again from (omega arith),
      plain_again to (omega arith),
      hex_hex_text body fit.2.fit,
      lt-ltb from n there,
      lt-ltb to n at,
      le-leb (length body) MOST_BODY fit.2.few,
    ) refl
command_again n (Do (Deliver from to picked state)) few fit =
    let there : from < n = fit.0 in
    let at : to < n = fit.2.0 in
    rw (
      plain_again from (omega arith),
      plain_again to (omega arith),
      pick_again picked fit.1,
      hex_hex_text state fit.2.1,
      lt-ltb from n there,
      lt-ltb to n at,
    ) refl
command_again n (Do (Check at state)) few fit =
    let there : at < n = fit.0 in
    rw (plain_again at (omega arith), hex_hex_text state fit.1, lt-ltb at n there) refl
command_again n (Do (Begin at state)) few fit =
    let there : at < n = fit.0 in
    rw (plain_again at (omega arith), hex_hex_text state fit.1, lt-ltb at n there) refl
command_again n (Do (Turn at state)) few fit =
    let there : at < n = fit.0 in
    rw (plain_again at (omega arith), hex_hex_text state fit.1, lt-ltb at n there) refl
command_again n (Do (Damage at check)) few fit =
    let there : at < n = fit.0 in
    let wide : check < 2 ^ 32 = fit.1 in
    rw (plain_again at (omega arith), plain_again check (omega arith), lt-ltb at n there) refl
command_again n (Do (Bar at check)) few fit =
    let there : at < n = fit.0 in
    let wide : check < 2 ^ 32 = fit.1 in
    rw (plain_again at (omega arith), plain_again check (omega arith), lt-ltb at n there) refl
command_again n (Do (Recover failed)) few fit =
    failed_set n (codes "recover") (λ set. Do (Recover set)) failed few fit
command_again n Rounds few fit = refl
command_again n History few fit = refl
command_again n (Bundle failed) few fit = failed_set n (codes "bundle") Bundle failed few fit
command_again n (Plan failed) few fit = failed_set n (codes "plan") Plan failed few fit
command_again n Live few fit = refl
command_again n (Answer failed) few fit = failed_set n (codes "answer") Answer failed few fit
command_again n (Forget None) few fit = refl
command_again n (Forget (Some r)) few fit = rw (round_again r fit.0 fit.1) refl
command_again n Save few fit = refl
command_again n (Refused code) few fit = absurd fit

commands_again : (n i : ℕ) (cs : List Command) → n ≤ MOST_PROCESSES
    → AllByRecursion (IsCommandInRange n) cs → commands_from n i (map (command_record n) cs) ≡ Ok cs
unfolding commands_from
commands_again n i [] few fit = refl
commands_again n i (c ∷ others) few fit =
    rw (command_again n c few fit.0, commands_again n (i + 1) others few fit.1) refl

script_again : (script : Script) → IsScriptInRange script
    → script_of (script_records script) ≡ Ok script
unfolding script_of
script_again script fit =
    let world = world_again (earliest_version script.n) script.n script.mode
    (earliest_is_known script.n) fit.some (earliest_has_room script.n fit.few) fit.few in
    rw (world, commands_again script.n 2 script.commands fit.few fit.commands) refl

with_state_is_written : (at : ℕ) (state : List ℕ) (n : ℕ) → n ≤ MOST_PROCESSES
    → IsWithState n at state → list_all is_plain_field (decimal at ∷ hex_text state ∷ []) ≡ true
with_state_is_written at state n few fit =
    let there : at < n = fit.0 in
    rw (plain_decimal at (omega arith), plain_hex state (byte_at state fit.1)) refl

with_check_is_written : (at check n : ℕ) → n ≤ MOST_PROCESSES → IsWithCheck n at check
    → list_all is_plain_field (decimal at ∷ decimal check ∷ []) ≡ true
with_check_is_written at check n few fit =
    let there : at < n = fit.0 in
    let wide : check < 2 ^ 32 = fit.1 in
    rw (plain_decimal at (omega arith), plain_decimal check (omega arith)) refl

set_is_written : (n : ℕ) (set : List Bool) → n ≤ MOST_PROCESSES
    → list_all is_plain_field (map decimal (members n set)) ≡ true
set_is_written n set few = decimals_are_plain n (members n set) few (members_below n set)

command_is_written : (n : ℕ) (c : Command) → n ≤ MOST_PROCESSES → IsCommandInRange n c
    → is_written (command_record n c) ≡ true
command_is_written n (Do (Send from to body)) few fit =
    let there : from < n = fit.0 in
    let at : to < n = fit.1 in
    rw (
      plain_decimal from (omega arith),
      plain_decimal to (omega arith),
      plain_hex body
          (byte_at body fit.2.fit),
    ) refl
command_is_written n (Do (Deliver from to picked state)) few fit =
    let there : from < n = fit.0 in
    rw (plain_decimal from (omega arith), plain_decimal picked fit.1)
    (with_state_is_written to state n few fit.2)
command_is_written n (Do (Check at state)) few fit = with_state_is_written at state n few fit
command_is_written n (Do (Begin at state)) few fit = with_state_is_written at state n few fit
command_is_written n (Do (Turn at state)) few fit = with_state_is_written at state n few fit
command_is_written n (Do (Damage at check)) few fit = with_check_is_written at check n few fit
command_is_written n (Do (Bar at check)) few fit = with_check_is_written at check n few fit
command_is_written n (Do (Recover failed)) few fit = set_is_written n failed few
command_is_written n Rounds few fit = refl
command_is_written n History few fit = refl
command_is_written n (Bundle failed) few fit = set_is_written n failed few
command_is_written n (Plan failed) few fit = set_is_written n failed few
command_is_written n Live few fit = refl
command_is_written n (Answer failed) few fit = set_is_written n failed few
command_is_written n (Forget None) few fit = refl
command_is_written n (Forget (Some r)) few fit =
    let high : r ≤ LAST_ROUND = fit.1 in
    rw (plain_decimal r (omega arith)) refl
command_is_written n Save few fit = refl
command_is_written n (Refused code) few fit = absurd fit

commands_are_written : (n : ℕ) (cs : List Command) → n ≤ MOST_PROCESSES → AllByRecursion
    (IsCommandInRange n) cs → list_all is_written (map (command_record n) cs) ≡ true
commands_are_written n [] few fit = refl
commands_are_written n (c ∷ others) few fit =
    rw (command_is_written n c few fit.0) (commands_are_written n others few fit.1)

mode_is_plain : (mode : Mode) → is_plain_field (mode_text mode) ≡ true
mode_is_plain Fifo = refl
mode_is_plain Unordered = refl

script_is_written : (script : Script) → IsScriptInRange script
    → list_all is_written (script_records script) ≡ true
script_is_written script fit =
    let few : script.n ≤ MOST_PROCESSES = fit.few in
    let last : earliest_version script.n ≤ LAST_VERSION = (earliest_is_known script.n).1 in
    rw (
      plain_decimal (earliest_version script.n) (omega arith),
      plain_decimal script.n
          (omega arith),
      mode_is_plain script.mode,
    )
    (commands_are_written script.n script.commands fit.few fit.commands)

pub text_again : (script : Script) → IsScriptInRange script
    → script_of_text (records_text (script_records script)) ≡ Ok script
unfolding script_of_text
text_again script fit =
    let written = script_is_written script fit in
    rw (
      written_is_input (script_records script) written,
      written_is_read
          (script_records script) written,
    ) (script_again script fit)

-- ---- a script that begins with a saved machine

saved_first_again : (parts : SavedParts) (commands : List Record) → IsSavedInRange parts
    → (j : ℕ) × (run_script_of (saved_records parts ++ commands)
    ≡ script_after (record { value = Saved parts; number = j; left = commands }))
saved_first_again parts commands fit =
    let again = saved_again parts commands fit in (
      again.0,
      run_saved (history_record LAST_CHECK_VERSION (length parts.history)) _ refl ∙ ap
          (λ (read : Result (Part SavedParts) TextFault). read >>= λ saved. script_after
          (saved_first saved)) again.1,
    )

saved_commands : (parts : SavedParts) (commands : List Command) (j : ℕ) → length parts.history ≤
    MOST_PROCESSES → AllByRecursion (IsCommandInRange (length parts.history)) commands
    → script_after (record {
      value = Saved parts;
      number = j;
      left = map (command_record
          (length parts.history)) commands;
    }) ≡ Ok (script_of_machine (Saved parts) j commands)
saved_commands parts commands j few fit =
    rw (commands_again (length parts.history) j commands few fit) refl

pub saved_text_again : (parts : SavedParts) (commands : List Command) → IsSavedInRange parts
    → AllByRecursion (IsCommandInRange (length parts.history)) commands
    → (first : ℕ) × (run_script_of_text (records_text (saved_script_records parts commands))
    ≡ Ok (script_of_machine (Saved parts) first commands))
unfolding run_script_of_text
saved_text_again parts commands fit all =
    let n : ℕ = length parts.history in
    let behind : List Record = map (command_record n) commands in
    let few : n ≤ MOST_PROCESSES = fit.history.few in
    let records : List Record = saved_script_records parts commands in
    let written : list_all is_written records ≡ true = list_all-append is_written (saved_records
    parts) behind ∙ rw (saved_is_written parts fit) (commands_are_written n commands few all) in
    let again = saved_first_again parts behind fit in (
      again.0,
      rw (written_is_input records written, written_is_read records written)
          (again.1 ∙ saved_commands parts commands again.0 few all),
    )
