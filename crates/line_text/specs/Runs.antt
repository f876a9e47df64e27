-- The run of a script, and the text of what its commands are told.
use Rattle.std.specs.Prelude.{◌≡◌, ◌<◌, ◌≤◌, ◌⊎◌, ℕ, ◌+◌, ◌-◌, ◌++◌, Bool, if◌then◌else◌, List}
use Rattle.std.specs.Prelude.{Option, drop, length, take, Ok, Err}
use Rattle.line_claims.specs.declared.faults.TextFault.{TextFault}
use Rattle.line_claims.specs.Reads.{IsOfText, fault_of_error}
use Rattle.line_devices.specs.Devices.{Puts, PutsButEnd, PutsFront, one_more}
use Rattle.line_live.specs.Lives.{LiveMachine, start_live}
use Rattle.line_scripts.specs.declared.commands.Command.{Command}
use Rattle.line_scripts.specs.RunScripts.{FirstMachine, New, RunScript, Saved}
use Rattle.line_scripts.specs.RunScripts.{run_script_of_text}
use Rattle.line_text.specs.declared.openings.OpenError.{OpenError}
use Rattle.line_text.specs.Openings.{IsUnopened, open_fault, opened}
use Rattle.line_text.specs.Answers.{DoesCommand, TellsAll, CommandAnswer, refusals, text_of}
use Rattle.line_text.specs.declared.engines.RunStop.{RunStop}
use Rattle.line_text.specs.declared.engines.RunStop.TheVariants as stops

-- the machine that a script begins with: a new one, or one that is opened of what was saved
abbrev pub begun_with : FirstMachine → LiveMachine
begun_with (New n mode) = start_live n mode
begun_with (Saved parts) = opened parts

-- the machine as a script begins
abbrev pub first_of : RunScript → LiveMachine
first_of script = begun_with script.machine

-- no machine is opened of what was saved, by that cause
abbrev pub IsUnopenedFirst : FirstMachine → OpenError → Type 0
IsUnopenedFirst (New n mode) cause = ⊥
IsUnopenedFirst (Saved parts) cause = IsUnopened parts cause

-- there is no such machine as a script begins with, the record of whose first command has that
-- number: a fault of the record before it
pub record IsUnbegun (machine : FirstMachine) (first : ℕ) (fault : TextFault) : Type 0 where
  pub cause : OpenError
  pub unopened : IsUnopenedFirst machine cause
  pub fault_is : fault ≡ fault_of_error (open_fault (first - 1) cause)

-- the text is not run: it has that fault, or there is no such machine as it begins with
abbrev pub IsUnrunText : List ℕ → TextFault → Type 0
IsUnrunText text fault =
    (run_script_of_text text ≡ Err fault)
    ⊎ ((script : RunScript) × (run_script_of_text text ≡ Ok script)
    × IsUnbegun script.machine script.first fault)

-- a fault by which a text is not run, by its number
abbrev pub IsOfRun : TextFault → Type 0
IsOfRun fault = IsOfText fault ⊎ (fault.code ≡ 38)

-- the machine ran these commands, so many of them refused, and the text of what they were told was
-- put
pub record Runs (first : LiveMachine) (commands : List Command) (refused : ℕ)
    (old new : Option (List ℕ)) : Type 0 where
  pub told : List CommandAnswer
  pub end : LiveMachine
  pub run : TellsAll first commands told end
  pub count : refused ≡ refusals told
  pub text : Puts old new (text_of told)

-- the machine ran the first commands, and a prefix of the text of that run was put
pub record RunsFront (first : LiveMachine) (commands : List Command)
    (old new : Option (List ℕ)) : Type 0 where
  pub done : ℕ
  pub told : List CommandAnswer
  pub end : LiveMachine
  pub run : TellsAll first (take done commands) told end
  pub text : PutsFront old new (text_of told)

-- the first of these commands was told something or, out of memory, nothing, and these bytes
-- are a prefix of the text of that
pub record BeginsReply (first : LiveMachine) (commands : List Command)
    (bytes : List ℕ) : Type 0 where
  pub told : List CommandAnswer
  pub end : LiveMachine
  pub rest : List ℕ
  pub one : length told ≤ 1
  pub run : TellsAll first (take (length told) commands) told end
  pub text : text_of told ≡ bytes ++ rest

-- the machine ran so many commands, after which there is one more; of what they were told, and a
-- prefix of what that one was told, this holds
pub record StopsAt (first : LiveMachine) (commands : List Command) (done : ℕ)
    (Holds : List ℕ → Type 0) : Type 0 where
  pub told : List CommandAnswer
  pub end : LiveMachine
  pub own : List ℕ
  pub there : done < length commands
  pub run : TellsAll first (take done commands) told end
  pub next : BeginsReply end (drop done commands) own
  pub text : Holds (text_of told ++ own)

-- the text spells a script that the machine ran whole, and the text of the run was put
pub record RunsText (text : List ℕ) (refused : ℕ) (old new : Option (List ℕ)) : Type 0 where
  pub script : RunScript
  pub spelt : run_script_of_text text ≡ Ok script
  pub runs : Runs (first_of script) script.commands refused old new

-- the text spells a script, of whose run on its first commands a front was put
pub record RunsTextFront (text : List ℕ) (old new : Option (List ℕ)) : Type 0 where
  pub script : RunScript
  pub spelt : run_script_of_text text ≡ Ok script
  pub runs : RunsFront (first_of script) script.commands old new

-- the text spells a script that the machine ran up to the command of that record; what was put is
-- what the commands before it were told, and perhaps a prefix of what it was told
pub record StopsText (text : List ℕ) (record_number : ℕ) (old new : Option (List ℕ)) : Type 0 where
  pub script : RunScript
  pub spelt : run_script_of_text text ≡ Ok script
  pub done : ℕ
  pub at : record_number ≡ script.first + done
  pub runs : StopsAt (first_of script) script.commands done (Puts old new)

-- one command more was done, and counted where it was refused
pub record DoesOne (old : LiveMachine) (command : Command) (new : LiveMachine)
    (taken now : Option (List ℕ)) (held : List ℕ) (refused : ℕ) (later : List ℕ)
    (count : ℕ) : Type 0 where
  pub one : Bool
  pub does : DoesCommand old command new taken now held later one
  pub counted : count ≡ refused + (if one then 1 else 0)

-- the first commands were done, so many of them refused, and the text of what they were told is put
-- but for what is held
pub record IsRunTo (first : LiveMachine) (commands : List Command) (done : ℕ) (now : LiveMachine)
    (refused : ℕ) (old new : Option (List ℕ)) (held : List ℕ) : Type 0 where
  pub told : List CommandAnswer
  pub run : TellsAll first (take done commands) told now
  pub count : refused ≡ refusals told
  pub few : refused ≤ done
  pub text : PutsButEnd old new held (text_of told)

-- why commands were not done to their end, where this holds of the text of what they were told
abbrev pub Stops : RunStop → LiveMachine → List Command → Option (List ℕ) → Option (List ℕ)
    → (List ℕ → Type 0) → Type 0
Stops (stops.Memory done) first commands old new Holds = StopsAt first commands done Holds
Stops stops.Write first commands old new Holds = RunsFront first commands old new

-- a sink has one fault more where it failed, and none else
abbrev pub Blames : RunStop → ℕ → ℕ → Type 0
Blames (stops.Memory done) old new = new ≡ old
Blames stops.Write old new = new ≡ one_more old
