-- What a machine that lets go did from the beginning, beside the machine that keeps everything.
use Rattle.std.specs.Prelude.{◌≡◌, ◌⊎◌, ℕ, List, [], ◌∷◌, Option, Some, None}
use Rattle.std.specs.List.{filter_map}
use Rattle.line_tape.specs.declared.modes.Mode.{Mode}
use Rattle.line_tape.specs.declared.steps.Step.{Step}
use Rattle.line_world.specs.declared.replies.Answer.{Answer}
use Rattle.line_world.specs.declared.replies.Answer.TheVariants.{Refused}
use Rattle.line_world.specs.declared.replies.StepError.{StepError}
use Rattle.line_world.specs.Machine.{Machine, start}
use Rattle.line_cuts.specs.Cuts.{Floor, floor_check, lost_sends}
use Rattle.line_live.specs.CutMachines.{cut_machine, IsBeside, RunsWithRoom, TakesWithRoom}
use Rattle.line_live.specs.Lives.{floor_refusal, ForgetsLive, ForgetsRound}
use Rattle.line_live.specs.Lives.{IsAnsweredByKept, LiveMachine}
use Rattle.line_live.specs.Machines.{IsSameMachine}

-- something that it did: it answered a step, refused one for what was let go, or let go what stands
-- before a round or before the line where each process fails
pub data Lived : Type 0 where
  Asked : Step → Answer → Lived
  Spared : Step → StepError → Lived
  ForgotRound : ℕ → Lived
  ForgotLive : Lived

-- it may do this, and go on to new
abbrev pub LivesOn : LiveMachine → Lived → LiveMachine → Type 0
LivesOn old (Asked step answer) new =
    (floor_refusal old.floor step ≡ None) × IsAnsweredByKept old step answer new
LivesOn old (Spared step e) new = (floor_refusal old.floor step ≡ Some e) × (new ≡ old)
LivesOn old (ForgotRound number) new = ForgetsRound old number new
LivesOn old ForgotLive new = ForgetsLive old new

-- it may do these things, one after another
abbrev pub IsLife : LiveMachine → List Lived → LiveMachine → Type 0
IsLife old [] new = new ≡ old
IsLife old (lived ∷ rest) new = (mid : LiveMachine) × LivesOn old lived mid × IsLife mid rest new

-- a step that it takes is one that it answers, or one that it refuses for what was let go
abbrev pub IsLivedStep : LiveMachine → Step → Answer → LiveMachine → Type 0
IsLivedStep old step answer new =
    LivesOn old (Asked step answer) new
    ⊎ ((e : StepError) × (answer ≡ Refused e) × LivesOn old (Spared step e) new)

-- the step that was answered
abbrev pub step_asked : Lived → Option Step
step_asked (Asked step answer) = Some step
step_asked (Spared step e) = None
step_asked (ForgotRound number) = None
step_asked ForgotLive = None

-- the answer to it
abbrev pub answer_told : Lived → Option Answer
answer_told (Asked step answer) = Some answer
answer_told (Spared step e) = None
answer_told (ForgotRound number) = None
answer_told ForgotLive = None

-- nothing stands before the floor
abbrev pub LetsNothingGo : Floor → Type 0
LetsNothingGo floor = (p : ℕ) → (floor_check floor p ≡ 0) × (lost_sends floor p ≡ 0)

-- what it keeps is the machine that keeps everything, or what is left of it
abbrev pub IsLeftOf : LiveMachine → Machine → Type 0
IsLeftOf live whole =
    (LetsNothingGo live.floor × (live.kept ≡ whole))
    ⊎ (IsBeside live.floor whole × IsSameMachine live.kept (cut_machine live.floor whole))

-- the machine that keeps everything may give this answer to the step, if its tapes were never full,
-- and the other one stays what is left of it
pub record IsToldByWhole (whole : Machine) (step : Step) (answer : Answer)
    (new : LiveMachine) : Type 0 where
  pub after : Machine
  pub takes : TakesWithRoom whole step answer after
  pub left : IsLeftOf new after

-- the machine that keeps everything may give all its answers to the steps, from the beginning, if
-- its tapes were never full, and what is kept is what is left of it
pub record IsLifeOfWhole (n : ℕ) (mode : Mode) (lived : List Lived)
    (live : LiveMachine) : Type 0 where
  pub whole : Machine
  pub runs : RunsWithRoom (start n mode) (filter_map step_asked lived)
      (filter_map answer_told lived) whole
  pub left : IsLeftOf live whole
