-- Which script a list of records spells for a run, and the first fault where it spells none. It
-- begins with `world`, or with the text of a saved machine.
use Rattle.std.specs.Prelude.{ℕ, List, [], ◌∷◌, length, Result, Ok, Err, if◌then◌else◌, codes}
use Rattle.line_fields.specs.declared.faults.Fault.TheVariants as faults
use Rattle.line_fields.specs.Fields.{◌>>=◌}
use Rattle.line_fields.specs.Records.{Record}
use Rattle.line_tape.specs.declared.modes.Mode.{Mode}
use Rattle.line_claims.specs.declared.faults.TextFault.{TextFault}
use Rattle.line_claims.specs.Parts.{Part, is_named}
use Rattle.line_claims.specs.Reads.{at_record, fault_of_record}
use Rattle.line_claims.specs.Saved.{SavedParts, saved_of}
use Rattle.line_claims.specs.Texts.{records_in}
use Rattle.line_scripts.specs.declared.commands.Command.{Command}
use Rattle.line_scripts.specs.Scripts.{Script, commands_from, world_of}

-- the machine that a script begins with: a new one of so many processes, whose links deliver so, or
-- one that was saved
pub data FirstMachine : Type 0 where
  New : ℕ → Mode → FirstMachine
  Saved : SavedParts → FirstMachine

-- how many processes it has
abbrev pub processes_of : FirstMachine → ℕ
processes_of (New n mode) = n
processes_of (Saved parts) = length parts.history

-- a machine that was saved, which records begin with
abbrev pub saved_first : Part SavedParts → Part FirstMachine
saved_first saved =
    record { value = Saved saved.value; number = saved.number; left = saved.left }

-- a new machine, as the first record says that stands before these
abbrev pub new_first : List Record → ℕ × Mode → Part FirstMachine
new_first rest world = record { value = New world.0 world.1; number = 2; left = rest }

-- the machine that records begin with, and what stands after it
unfoldable pub first_machine_of : List Record → Result (Part FirstMachine) TextFault
first_machine_of [] = Err (fault_of_record 1 faults.NoWorld)
first_machine_of (first ∷ rest) =
    if is_named (codes "history") first
    then (saved_of (first ∷ rest) >>= λ saved. Ok (saved_first saved))
    else (at_record 1 (world_of first) >>= λ world. Ok (new_first rest world))

-- the machine, the number of the record of the first command, and the commands in their order
pub record RunScript : Type 0 where
  pub machine : FirstMachine
  pub first : ℕ
  pub commands : List Command

-- a script that begins with a machine, and of which these commands were read
abbrev pub script_of_machine : FirstMachine → ℕ → List Command → RunScript
script_of_machine machine first commands =
    record { machine = machine; first = first; commands = commands }

-- a script that begins with a machine, after which its commands stand
abbrev pub script_after : Part FirstMachine → Result RunScript TextFault
script_after machine =
    commands_from (processes_of machine.value) machine.number machine.left
    >>= λ commands. Ok (script_of_machine machine.value machine.number commands)

-- the script that records spell
unfoldable pub run_script_of : List Record → Result RunScript TextFault
run_script_of records = first_machine_of records >>= script_after

-- the script that a text spells
unfoldable pub run_script_of_text : List ℕ → Result RunScript TextFault
run_script_of_text text = records_in text >>= run_script_of

-- a script that begins with `world`, as one that is run
abbrev pub as_run : Script → RunScript
as_run script = script_of_machine (New script.n script.mode) 2 script.commands

-- what is read of records that do not begin with a saved machine, as it is run
abbrev pub read_as_run : Result Script TextFault → Result RunScript TextFault
read_as_run read = read >>= λ script. Ok (as_run script)
