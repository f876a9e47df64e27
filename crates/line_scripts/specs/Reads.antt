-- A script that was read, and the faults that a script has.
use Rattle.std.specs.Prelude.{◌≡◌, ◌<◌, ◌≤◌, length}
use Rattle.line_names.specs.declared.limits.TheConstants.{MOST_PROCESSES}
use Rattle.line_claims.specs.declared.faults.TextFault.{TextFault}
use Rattle.line_claims.specs.SavedReadings.{saved_view}
use Rattle.line_scripts.specs.declared.beginnings.KeptMachine.{KeptMachine}
use Rattle.line_scripts.specs.declared.beginnings.KeptMachine.TheVariants as kept_machines
use Rattle.line_scripts.specs.declared.scripts.KeptScript as kept
use Rattle.line_scripts.specs.declared.scripts.Script as made
use Rattle.line_scripts.specs.RunScripts.{FirstMachine, New, RunScript, Saved, script_of_machine}
use Rattle.line_scripts.specs.Scripts.{Script}

-- a script with its commands as a list
abbrev pub script_view : made.Script → Script
script_view script = record { n = script.n; mode = script.mode; commands = script.commands.items }

-- the machine that is kept of a script
abbrev pub machine_view : KeptMachine → FirstMachine
machine_view (kept_machines.New n mode) = New n mode
machine_view (kept_machines.Saved text) = Saved (saved_view text)

-- a script in little memory
abbrev pub kept_script_view : kept.KeptScript → RunScript
kept_script_view script =
    script_of_machine (machine_view script.machine) script.first script.commands

-- a new machine has so many processes as there may be, and a saved one marks of each process
abbrev pub IsKeptMachine : KeptMachine → Type 0
IsKeptMachine (kept_machines.New n mode) = (1 ≤ n) × (n ≤ MOST_PROCESSES)
IsKeptMachine (kept_machines.Saved text) =
    length text.marks.damaged ≡ length text.history.processes

-- the fault is one that scripts have that begin with `world`, by its number
abbrev pub IsOfScript : TextFault → Type 0
IsOfScript fault = (0 < fault.code) × (fault.code < 36)
