-- The machine that lets go: what it answers, what it forgets, and what it did from the beginning.
use Rattle.std.specs.Prelude.{◌≡◌, ◌&&◌, ℕ, nat_le, nat_lt, if◌then◌else◌}
use Rattle.std.specs.Prelude.{All, List, [], ◌∷◌, Bool, Option, Some, None}
use Rattle.line_moves.specs.Listed.{IsReached}
use Rattle.line_plan.specs.declared.plans.Plan.{Plan}
use Rattle.line_tape.specs.declared.modes.Mode.{Mode}
use Rattle.line_tape.specs.declared.steps.Step.{Step}
use Rattle.line_tape.specs.declared.steps.Step.TheVariants.{Send, Deliver, Check, Begin, Turn}
use Rattle.line_tape.specs.declared.steps.Step.TheVariants.{Damage, Bar, Recover}
use Rattle.line_world.specs.declared.replies.Answer.{Answer}
use Rattle.line_world.specs.declared.replies.Answer.TheVariants.{Refused}
use Rattle.line_world.specs.declared.replies.StepError.{StepError}
use Rattle.line_world.specs.declared.replies.StepError.TheVariants.{InitialDamage, NoSuchCheck}
use Rattle.line_world.specs.Machine.{Machine, is_open, start}
use Rattle.line_world.specs.Runs.{Takes}
use Rattle.line_world.specs.Steps.{IsPlan}
use Rattle.line_cuts.specs.Cuts.{Floor, floor_check, whole_floor}
use Rattle.line_cuts.specs.Floors.{first_floor, HasNumbers, LacksNumbers}
use Rattle.line_live.specs.CutMachines.{cut_machine, cut_step, whole_answer, whole_plan}
use Rattle.line_live.specs.declared.refusals.ForgetError.{ForgetError}
use Rattle.line_live.specs.declared.refusals.ForgetError.TheVariants.{NoMoreNumbers}
use Rattle.line_live.specs.Forgets.{forget_refusal, idle_refusal}
use Rattle.line_live.specs.Forgets.{IsFloorOfRound, IsFloorWhereAllFail}
use Rattle.line_live.specs.Machines.{IsSameMachine}

-- a machine that lets go: what it keeps, in names and numbers of its own, and the floor that all
-- else was let go before, in those of the machine that keeps everything
pub record LiveMachine : Type 0 where
  pub floor : Floor
  pub kept : Machine

-- the empty state of n processes, of which nothing was let go
abbrev pub start_live : ℕ → Mode → LiveMachine
start_live n mode = record { floor = first_floor n; kept = start n mode }

-- what was let go refuses the step: of a process that has a floor no check up to it can be damaged,
-- and none below it is there to be barred at
abbrev pub floor_refusal : Floor → Step → Option StepError
floor_refusal floor (Send from to body) = None
floor_refusal floor (Deliver from to pick state) = None
floor_refusal floor (Check at state) = None
floor_refusal floor (Begin at state) = None
floor_refusal floor (Turn at state) = None
floor_refusal floor (Damage at check) =
    if nat_le 1 (floor_check floor at) && nat_le check (floor_check floor at)
    then Some InitialDamage
    else None
floor_refusal floor (Bar at check) =
    if nat_lt check (floor_check floor at) then Some NoSuchCheck else None
floor_refusal floor (Recover failed) = None

-- what is kept may answer the step, brought back
pub record IsAnsweredByKept (old : LiveMachine) (step : Step) (answer : Answer)
    (new : LiveMachine) : Type 0 where
  pub told : Answer
  pub takes : Takes old.kept (cut_step old.floor step) told new.kept
  pub brought_back : answer ≡ whole_answer old.floor told
  pub floor_is : new.floor ≡ old.floor

-- the step is refused by this cause, if there is one, and else answered by what is kept
abbrev pub TakesUnless : Option StepError → LiveMachine → Step → Answer → LiveMachine → Type 0
TakesUnless (Some e) old step answer new = (answer ≡ Refused e) × (new ≡ old)
TakesUnless None old step answer new = IsAnsweredByKept old step answer new

-- from old, the machine that lets go may give this answer to the step and go on to new
abbrev pub TakesLive : LiveMachine → Step → Answer → LiveMachine → Type 0
TakesLive old step answer new = TakesUnless (floor_refusal old.floor step) old step answer new

-- it may give these answers to these steps, one after another
abbrev pub RunLive : LiveMachine → List Step → List Answer → LiveMachine → Type 0
RunLive old [] [] new = new ≡ old
RunLive old (step ∷ steps) (answer ∷ answers) new =
    (mid : LiveMachine) × TakesLive old step answer mid × RunLive mid steps answers new
RunLive old [] (answer ∷ answers) new = ⊥
RunLive old (step ∷ steps) [] new = ⊥

-- the plan is one of what is kept, brought back; its line is at no process earlier than the check
-- of a listed round whose checks survive
pub record IsPlanOfKept (live : LiveMachine) (failed : List Bool) (plan : Plan) : Type 0 where
  pub kept : Plan
  pub plan_is : IsPlan live.kept failed kept
  pub reached : All (IsReached live.kept.history live.kept.marks failed kept.line) live.kept.rounds
  pub brought_back : plan ≡ whole_plan live.floor kept

-- what stands before a floor of what is kept is let go
pub record LetsGo (old : LiveMachine) (later : Floor) (new : LiveMachine) : Type 0 where
  pub numbers : HasNumbers (whole_floor old.floor later)
  pub floor_is : new.floor ≡ whole_floor old.floor later
  pub kept : IsSameMachine new.kept (cut_machine later old.kept)

-- what stands before the listed round of this number is let go
pub record ForgetsRound (old : LiveMachine) (number : ℕ) (new : LiveMachine) : Type 0 where
  pub unrefused : forget_refusal old.kept number ≡ None
  pub later : Floor
  pub at : IsFloorOfRound old.kept number later
  pub lets_go : LetsGo old later new

-- what stands before the line where each process fails is let go
pub record ForgetsLive (old : LiveMachine) (new : LiveMachine) : Type 0 where
  pub unrefused : idle_refusal old.kept.mode (is_open old.kept) None ≡ None
  pub later : Floor
  pub at : IsFloorWhereAllFail old.kept later
  pub lets_go : LetsGo old later new

-- a cause that takes the floor to tell: the numbers of what is let go in all are too great
pub record IsSpentAt (IsAt : Floor → Type 0) (floor : Floor) (e : ForgetError) : Type 0 where
  pub later : Floor
  pub at : IsAt later
  pub spent : LacksNumbers (whole_floor floor later)
  pub cause : e ≡ NoMoreNumbers

-- nothing is let go by this cause, which comes first
abbrev pub IsForgetRefused : Option ForgetError → (Floor → Type 0) → Floor → ForgetError → Type 0
IsForgetRefused (Some cause) IsAt floor e = e ≡ cause
IsForgetRefused None IsAt floor e = IsSpentAt IsAt floor e

-- nothing is let go before the round of this number
abbrev pub IsRoundKept : LiveMachine → ℕ → ForgetError → Type 0
IsRoundKept live number e =
    IsForgetRefused (forget_refusal live.kept number) (IsFloorOfRound live.kept number) live.floor e

-- nothing is let go before the line where each process fails
abbrev pub IsLineKept : LiveMachine → ForgetError → Type 0
IsLineKept live e =
    IsForgetRefused (idle_refusal live.kept.mode (is_open live.kept) None)
    (IsFloorWhereAllFail live.kept) live.floor e
