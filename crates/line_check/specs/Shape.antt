-- Claims that name only what a history has.
use Rattle.std.specs.Prelude.{◌≡◌, ℕ, ◌<◌, ◌≤◌, Bool, IsTrue, List, length, All, Some}
use Rattle.line_names.specs.declared.certificates.Passed.{Passed}
use Rattle.line_names.specs.declared.choices.Choice.{Choice}
use Rattle.line_names.specs.Sets.{is_member}
use Rattle.line_tape.specs.Event.{checks}
use Rattle.line_tape.specs.Front.{HasChoice}
use Rattle.line_tape.specs.History.{Process, tape_at}
use Rattle.line_tape.specs.Line.{IsLine}
use Rattle.line_tape.specs.Survival.{is_damaged}
use Rattle.line_tape.specs.Views.{MarksView, bar_at}

-- the history has the entry's process, its choice of that process, and the sender of its message
pub record IsEntryOf (history : List Process) (entry : Passed) : Type 0 where
  pub process : entry.at < length history
  pub choice : HasChoice (tape_at history entry.at) entry.choice
  pub sender : entry.message.from < length history

-- the history has process p, and check c of it
pub record IsCheckOf (history : List Process) (p c : ℕ) : Type 0 where
  pub process : p < length history
  pub check : c ≤ checks (tape_at history p)

-- the line has one choice for each process, and the claim that these entries show it to be the
-- latest names only processes, choices and checks that the history has
pub record HasShape (history : List Process) (marks : MarksView) (failed : List Bool)
    (entries : List Passed) (line : List Choice) : Type 0 where
  pub choices : IsLine history line
  pub passed : All (IsEntryOf history) entries
  pub damaged : (p c : ℕ) → IsTrue (is_damaged marks p c) → IsCheckOf history p c
  pub barred : (p c : ℕ) → bar_at marks p ≡ Some c → IsCheckOf history p c
  pub members : (p : ℕ) → IsTrue (is_member failed p) → p < length history
