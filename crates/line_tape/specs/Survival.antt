-- Surviving choices, and the latest line of them: the recovery line (Elnozahy, Alvisi, Wang and
-- Johnson, ACM Computing Surveys 34(3), 2002).
use Rattle.std.specs.Prelude.{◌≡◌, ℕ, zero, suc, ◌==◌, nat_le, Bool, true, false, not, ◌&&◌, IsTrue}
use Rattle.std.specs.Prelude.{List, [], length, slice_index_or, Option, Some, None}
use Rattle.std.specs.List.{list_any}
use Rattle.std.specs.Option.{option_map_or}
use Rattle.line_names.specs.declared.choices.Choice.{Choice}
use Rattle.line_names.specs.declared.choices.Choice.TheVariants.{Check as AtCheck, Now}
use Rattle.line_names.specs.Lines.{choice_at, IsNowhereLater}
use Rattle.line_names.specs.Sets.{is_member}
use Rattle.line_tape.specs.Event.{checks}
use Rattle.line_tape.specs.History.{Process, tape_at}
use Rattle.line_tape.specs.Line.{IsConsistent}
use Rattle.line_tape.specs.Views.{MarksView, bar_at}

-- check c of process p carries a mark of damage
abbrev pub is_damaged : MarksView → ℕ → ℕ → Bool
is_damaged marks p c = list_any (λ damaged. damaged == c) (slice_index_or marks.damaged p [])

-- the choice is not later than the bar, where there is one
abbrev pub is_allowed : Option ℕ → Choice → Bool
is_allowed None choice = true
is_allowed (Some bar) (AtCheck c) = nat_le c bar
is_allowed (Some bar) Now = false

-- no choice of process p later than check c is allowed
abbrev pub is_barred : MarksView → ℕ → ℕ → Bool
is_barred marks p c = option_map_or (λ bar. nat_le bar c) (bar_at marks p) false

-- the initial state survives, and of what the process's bar allows each check without a mark, and
-- `Now` where the process did not fail
abbrev pub survives : List Process → MarksView → List Bool → ℕ → Choice → Bool
survives history marks failed p (AtCheck zero) = true
survives history marks failed p (AtCheck (suc c)) =
    nat_le (suc c) (checks (tape_at history p))
    && not (is_damaged marks p (suc c))
    && is_allowed (bar_at marks p) (AtCheck (suc c))
survives history marks failed p Now = not (is_member failed p) && is_allowed (bar_at marks p) Now

-- one surviving choice for each process, and no orphan
pub record IsRecoverable (history : List Process) (marks : MarksView) (failed : List Bool)
    (line : List Choice) : Type 0 where
  pub length_is : length line ≡ length history
  pub surviving : (p : ℕ) → IsTrue (survives history marks failed p (choice_at line p))
  pub consistent : IsConsistent history line

-- a recoverable line that is, at every process, at least as late as every recoverable line
pub record IsLatest (history : List Process) (marks : MarksView) (failed : List Bool)
    (line : List Choice) : Type 0 where
  pub recoverable : IsRecoverable history marks failed line
  pub latest : (other : List Choice) → IsRecoverable history marks failed other
      → IsNowhereLater other line
