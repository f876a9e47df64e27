-- What was taken of a script, as its code keeps it. No contract that a caller reads needs this.
use Rattle.std.specs.Prelude.{◌≡◌, ◌≤◌, ⊤, ℕ, Bool, false, true, List, []}
use Rattle.line_claims.specs.SavedReadings.{is_whole}
use Rattle.line_scripts.specs.declared.beginnings.Beginning.{Beginning}
use Rattle.line_scripts.specs.declared.beginnings.Beginning.TheVariants as beginnings
use Rattle.line_scripts.specs.declared.beginnings.TheConstants.{LAST_OF_SAVED}
use Rattle.line_scripts.specs.declared.commands.Command.{Command}
use Rattle.line_scripts.specs.Pieces.{InCommands, InSaved, NothingTaken, TakenScript}
use Rattle.line_scripts.specs.Reads.{IsKeptMachine, machine_view}
use Rattle.line_scripts.specs.RunScripts.{processes_of}

-- what was taken, with the commands so far
abbrev pub taken_of : Beginning → List Command → TakenScript
taken_of beginnings.Nothing commands = NothingTaken
taken_of (beginnings.Text text) commands = InSaved text.reader text.number
taken_of (beginnings.Machine it) commands =
    InCommands (machine_view it.machine) it.first commands

-- the machine was taken
abbrev pub has_machine : Beginning → Bool
has_machine beginnings.Nothing = false
has_machine (beginnings.Text text) = false
has_machine (beginnings.Machine it) = true

-- a text of a saved machine goes on, in records that can be counted, and a machine is one that may
-- begin
abbrev pub IsBeginning : Beginning → Type 0
IsBeginning beginnings.Nothing = ⊤
IsBeginning (beginnings.Text text) =
    (is_whole text.reader ≡ false) × (2 ≤ text.number) × (text.number ≤ LAST_OF_SAVED)
IsBeginning (beginnings.Machine it) =
    IsKeptMachine it.machine × (2 ≤ it.first) × (it.first ≤ LAST_OF_SAVED)

-- the text of a saved machine is taken
abbrev pub IsInText : Beginning → Type 0
IsInText beginnings.Nothing = ⊥
IsInText (beginnings.Text text) = ⊤
IsInText (beginnings.Machine it) = ⊥

-- its last record was taken
abbrev pub IsAtEnd : Beginning → Type 0
IsAtEnd beginnings.Nothing = ⊥
IsAtEnd (beginnings.Text text) =
    (is_whole text.reader ≡ true) × (2 ≤ text.number) × (text.number ≤ LAST_OF_SAVED)
IsAtEnd (beginnings.Machine it) = ⊥

-- the machine has so many processes, and the record of its first command has that number
abbrev pub HasFound : Beginning → ℕ × ℕ → Type 0
HasFound beginnings.Nothing found = ⊥
HasFound (beginnings.Text text) found = ⊥
HasFound (beginnings.Machine it) found =
    (found.0 ≡ processes_of (machine_view it.machine)) × (found.1 ≡ it.first)

-- commands are kept after a beginning, and none before there is a machine
pub record AreKept (beginning : Beginning) (commands : List Command) : Type 0 where
  pub begun : IsBeginning beginning
  pub none : has_machine beginning ≡ false → commands ≡ []
