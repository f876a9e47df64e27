-- Chains: why each later surviving choice was passed over on the way to a line.
use Rattle.std.specs.Prelude.{◌≡◌, ℕ, zero, suc, ◌-◌, ◌<◌, Bool, if◌then◌else◌, IsTrue, List, []}
use Rattle.std.specs.Prelude.{◌∷◌, length, map, slice_get, slice_set, Some}
use Rattle.std.specs.List.{range_with_len}
use Rattle.line_names.specs.declared.choices.Choice.{Choice}
use Rattle.line_names.specs.declared.choices.Choice.TheVariants.{Check as AtCheck, Now}
use Rattle.line_names.specs.declared.certificates.Passed.{Passed}
use Rattle.line_names.specs.declared.messages.MsgName.{MsgName}
use Rattle.line_names.specs.Lines.{choice_at}
use Rattle.line_names.specs.Order.{IsNoLater}
use Rattle.line_tape.specs.Event.{checks}
use Rattle.line_tape.specs.History.{Process, tape_at}
use Rattle.line_tape.specs.Line.{IsOrphan, IsConsistent}
use Rattle.line_tape.specs.Survival.{survives}
use Rattle.line_tape.specs.Views.{MarksView}

-- the latest check up to check c that passes a test; the initial state where none does
abbrev pub latest_check : (Choice → Bool) → ℕ → Choice
latest_check passes zero = AtCheck 0
latest_check passes (suc c) =
    if passes (AtCheck (suc c)) then AtCheck (suc c) else latest_check passes c

-- the latest surviving choice of process p
abbrev pub latest_choice : List Process → MarksView → List Bool → ℕ → Choice
latest_choice history marks failed p =
    if survives history marks failed p Now
    then Now
    else latest_check (survives history marks failed p) (checks (tape_at history p))

-- the latest surviving choice of process p before a choice; for the initial state, itself
abbrev pub next_lower : List Process → MarksView → List Bool → ℕ → Choice → Choice
next_lower history marks failed p (AtCheck c) =
    latest_check (survives history marks failed p) (c - 1)
next_lower history marks failed p Now =
    latest_check (survives history marks failed p) (checks (tape_at history p))

-- where the ceilings start: at the latest surviving choice of each process
abbrev pub first_ceilings : List Process → MarksView → List Bool → List Choice
first_ceilings history marks failed =
    map (latest_choice history marks failed) (range_with_len 0 (length history))

-- the ceilings once process p is lowered to its next lower surviving choice
abbrev pub lowered_ceilings : List Process → MarksView → List Bool → List Choice → ℕ → List Choice
lowered_ceilings history marks failed ceilings p =
    slice_set ceilings p (next_lower history marks failed p (choice_at ceilings p))

-- the entry passes its process's present ceiling, for an orphan there
pub record IsRight (history : List Process) (ceilings : List Choice) (entry : Passed) : Type 0 where
  pub top : entry.choice ≡ choice_at ceilings entry.at
  pub orphan : IsOrphan history ceilings entry.at entry.message

-- the entries are right one after another, and lead from these ceilings to that line
abbrev pub LeadsTo : List Process → MarksView → List Bool → List Choice → List Passed → List Choice
    → Type 0
LeadsTo history marks failed ceilings [] line = ceilings ≡ line
LeadsTo history marks failed ceilings (entry ∷ entries) line =
    IsRight history ceilings entry
    × LeadsTo history marks failed
    (lowered_ceilings history marks failed ceilings entry.at) entries line

-- these entries lead from the latest surviving choices to the line
abbrev pub IsLed : List Process → MarksView → List Bool → List Passed → List Choice → Type 0
IsLed history marks failed entries line =
    LeadsTo history marks failed (first_ceilings history marks failed) entries line

-- the chain is valid for the line: it leads there from the latest surviving choices, and the line
-- is consistent
pub record IsChain (history : List Process) (marks : MarksView) (failed : List Bool)
    (entries : List Passed) (line : List Choice) : Type 0 where
  pub leads : IsLed history marks failed entries line
  pub consistent : IsConsistent history line

-- a surviving choice of process p that is later than the line's
pub record IsAbove (history : List Process) (marks : MarksView) (failed : List Bool)
    (line : List Choice) (p : ℕ) (choice : Choice) : Type 0 where
  pub process : p < length history
  pub surviving : IsTrue (survives history marks failed p choice)
  pub later : IsNoLater choice (choice_at line p) → ⊥

-- entry k, counted from 0, passes that choice of process p over
abbrev pub PassesOver : List Passed → ℕ → ℕ → Choice → Type 0
PassesOver entries k p choice =
    (message : MsgName)
    × (slice_get entries k ≡ Some (record { at = p; choice = choice; message = message }))

-- exactly one entry passes that choice of process p over
pub record IsPassedOnce (entries : List Passed) (p : ℕ) (choice : Choice) : Type 0 where
  pub index : ℕ
  pub passed : PassesOver entries index p choice
  pub only : (k : ℕ) → PassesOver entries k p choice → k ≡ index
