-- Machines that are opened anew: of their tapes and marks, the floor that all else was let go
-- before, the last round begun, and of each listed round its number and its checks.
use Rattle.std.specs.Prelude.{◌≡◌, ◌≤◌, ◌<◌, ℕ, List, [], length, map, All, AllPairs}
use Rattle.line_tape.specs.History.{Process}
use Rattle.line_tape.specs.Line.{IsConsistent, IsLine}
use Rattle.line_tape.specs.Rounds.{check_line}
use Rattle.line_tape.specs.Transit.{in_transit_between}
use Rattle.line_tape.specs.Views.{MarksView}
use Rattle.line_tape.specs.declared.modes.Mode.TheVariants.{Fifo}
use Rattle.line_moves.specs.Listed.{ListedRound, channel_table}
use Rattle.line_world.specs.Idle.{IsIdle}
use Rattle.line_world.specs.Machine.{Machine}
use Rattle.line_cuts.specs.Cuts.{Floor, FloorSurvives, IsFloor, cut_checks}
use Rattle.line_cuts.specs.Floors.{HasNumbers, LacksNumbers}
use Rattle.line_live.specs.declared.refusals.ResumeError.{ResumeError}
use Rattle.line_live.specs.declared.refusals.ResumeError.TheVariants.{OutOfMemory, ForeignFloor}
use Rattle.line_live.specs.declared.refusals.ResumeError.TheVariants.{NoMoreNumbers, NotIdle}
use Rattle.line_live.specs.declared.refusals.ResumeError.TheVariants.{FloorLost, NotConsistent}
use Rattle.line_live.specs.declared.refusals.ResumeError.TheVariants.{RoundsDisordered}

-- a listed round by its number and its check of each process
pub record CheckedRound : Type 0 where
  pub number : ℕ
  pub checks : List ℕ

-- what tells a listed round
abbrev pub checks_in_round : ListedRound → CheckedRound
checks_in_round round = record { number = round.number; checks = round.checks }

-- the listed round of these checks: its channels have what is in transit there
abbrev pub resumed_round : List Process → CheckedRound → ListedRound
resumed_round history round = record {
  number = round.number;
  checks = round.checks;
  channels = channel_table (length history)
      (in_transit_between history (check_line round.checks));
}

-- the machine of these parts, over links that keep their order
abbrev pub resumed_machine : List Process → MarksView → ℕ → List CheckedRound → Machine
resumed_machine history marks last rounds = record {
  mode = Fifo;
  history = history;
  marks = marks;
  last_round = last;
  rounds = map (resumed_round history) rounds;
  copies = [];
}

-- the floor has a check and a count of sends for each of n processes, and for no other
pub record IsFloorOfAll (n : ℕ) (floor : Floor) : Type 0 where
  pub checks : length floor.checks ≡ n
  pub sends : length floor.sends ≡ n

-- the rounds stand in the order of their numbers, and none is later than the last one begun
pub record AreByNumber (last : ℕ) (rounds : List CheckedRound) : Type 0 where
  pub begun : All (λ (round : CheckedRound). round.number ≤ last) rounds
  pub ascending : AllPairs (λ (a b : CheckedRound). a.number < b.number) rounds

-- the floor in what is kept: of a process that has one its first check, else its initial state
abbrev pub kept_floor : Floor → Floor
kept_floor floor = record {
  checks = cut_checks floor floor.checks;
  sends = [];
  round = floor.round;
}

-- what is kept has the floor, and it survives there, whoever failed
pub record HasFloor (history : List Process) (marks : MarksView) (floor : Floor) : Type 0 where
  pub is : IsFloor history (kept_floor floor)
  pub stays : FloorSurvives history marks (kept_floor floor)

-- none of the checks is an initial state
abbrev pub AreChecks : List ℕ → Type 0
AreChecks checks = All (λ check. 1 ≤ check) checks

-- the checks of the round make a consistent line, and none is an initial state
pub record IsConsistentRound (history : List Process) (round : CheckedRound) : Type 0 where
  pub checked : AreChecks round.checks
  pub line : IsLine history (check_line round.checks)
  pub consistent : IsConsistent history (check_line round.checks)

-- a machine may be opened of these parts
pub record IsResumable (history : List Process) (marks : MarksView) (floor : Floor) (last : ℕ)
    (rounds : List CheckedRound) : Type 0 where
  pub of_all : IsFloorOfAll (length history) floor
  pub numbers : HasNumbers floor
  pub order : AreByNumber last rounds
  pub idle : IsIdle history last
  pub held : HasFloor history marks floor
  pub consistent : All (IsConsistentRound history) rounds

-- none is opened, by this cause: it holds, and none before it
abbrev pub IsResumeRefused : List Process → MarksView → Floor → ℕ → List CheckedRound → ResumeError
    → Type 0
IsResumeRefused history marks floor last rounds OutOfMemory = ⊥
IsResumeRefused history marks floor last rounds ForeignFloor =
    IsFloorOfAll (length history) floor → ⊥
IsResumeRefused history marks floor last rounds NoMoreNumbers =
    IsFloorOfAll (length history) floor × LacksNumbers floor
IsResumeRefused history marks floor last rounds RoundsDisordered =
    IsFloorOfAll (length history) floor × HasNumbers floor × (AreByNumber last rounds → ⊥)
IsResumeRefused history marks floor last rounds NotIdle =
    IsFloorOfAll (length history) floor × HasNumbers floor × AreByNumber last rounds
    × (IsIdle history last → ⊥)
IsResumeRefused history marks floor last rounds FloorLost =
    IsFloorOfAll (length history) floor × HasNumbers floor × AreByNumber last rounds
    × IsIdle history last × (HasFloor history marks floor → ⊥)
IsResumeRefused history marks floor last rounds NotConsistent =
    IsFloorOfAll (length history) floor × HasNumbers floor × AreByNumber last rounds
    × IsIdle history last × HasFloor history marks floor
    × (All (IsConsistentRound history) rounds → ⊥)
