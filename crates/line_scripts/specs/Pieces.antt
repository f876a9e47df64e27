-- What the text of a script still spells, the first records of which were taken.
use Rattle.std.specs.Prelude.{ℕ, ◌+◌, ◌++◌, List, length, Option, None, Some, Result, Ok}
use Rattle.std.specs.Prelude.{Err}
use Rattle.line_fields.specs.Fields.{◌>>=◌}
use Rattle.line_fields.specs.Records.{Record}
use Rattle.line_claims.specs.declared.faults.TextFault.{TextFault}
use Rattle.line_claims.specs.SavedReadings.{SavedPlace, saved_left}
use Rattle.line_claims.specs.Texts.{records_in}
use Rattle.line_scripts.specs.declared.commands.Command.{Command}
use Rattle.line_scripts.specs.RunScripts.{FirstMachine, RunScript, processes_of, run_script_of}
use Rattle.line_scripts.specs.RunScripts.{saved_first, script_after, script_of_machine}
use Rattle.line_scripts.specs.Scripts.{commands_from}

-- what was taken of a script: nothing; the first records of a saved machine, the next one with that
-- number; or its machine, the number of the record of its first command, and the commands so far
pub data TakenScript : Type 0 where
  NothingTaken : TakenScript
  InSaved : SavedPlace → ℕ → TakenScript
  InCommands : FirstMachine → ℕ → List Command → TakenScript

-- commands, and after them those that are read next
abbrev pub with_commands : List Command → Result (List Command) TextFault
    → Result (List Command) TextFault
with_commands front read = read >>= λ others. Ok (front ++ others)

-- a script of which these commands were taken, with those of more records
abbrev pub script_with : FirstMachine → ℕ → List Command → List Record → Result RunScript TextFault
script_with machine first commands records =
    with_commands commands
    (commands_from (processes_of machine) (length commands + first) records)
    >>= λ all. Ok (script_of_machine machine first all)

-- the script of which that was taken, and these records end
abbrev pub script_left : TakenScript → List Record → Result RunScript TextFault
script_left NothingTaken records = run_script_of records
script_left (InSaved place number) records =
    saved_left place number records >>= λ saved. script_after (saved_first saved)
script_left (InCommands machine first commands) records =
    script_with machine first commands records

-- what is read, unless there was a fault before
abbrev pub unless_faulted : Option TextFault → Result RunScript TextFault
    → Result RunScript TextFault
unless_faulted None read = read
unless_faulted (Some fault) read = Err fault

-- what was taken of the text of a script, and the fault, if there was one
pub record ScriptPlace : Type 0 where
  pub taken : TakenScript
  pub fault : Option TextFault

-- what a text spells that ends what was taken
unfoldable pub script_text_left : ScriptPlace → List ℕ → Result RunScript TextFault
script_text_left place text =
    records_in text >>= λ records. unless_faulted place.fault (script_left place.taken records)
