-- What refuses a step: the first cause that holds.
use Rattle.std.specs.Prelude.{◌≡◌, ℕ, ◌+◌, Bool, false, not, ◌||◌, ◌&&◌, ◌==◌, nat_lt, nat_le}
use Rattle.std.specs.Prelude.{if◌then◌else◌, List, [], ◌∷◌, ◌++◌, drop, length, slice_get, Option}
use Rattle.std.specs.Prelude.{Some, None}
use Rattle.std.specs.List.{list_any}
use Rattle.line_names.specs.declared.choices.Choice.{Choice}
use Rattle.line_tape.specs.declared.items.Item.{Item}
use Rattle.line_tape.specs.declared.limits.TheConstants.{MOST_EVENTS, MOST_STATE, LAST_ROUND}
use Rattle.line_tape.specs.Event.{checks}
use Rattle.line_tape.specs.History.{tape_at}
use Rattle.line_tape.specs.Restart.{HaveFurther}
use Rattle.line_tape.specs.Rounds.{has_check_of}
use Rattle.line_tape.specs.Survival.{is_barred, is_damaged, IsLatest}
use Rattle.line_tape.specs.declared.modes.Mode.{Mode}
use Rattle.line_tape.specs.declared.modes.Mode.TheVariants.{Fifo, Unordered}
use Rattle.line_tape.specs.declared.steps.Step.{Step}
use Rattle.line_tape.specs.declared.steps.Step.TheVariants.{Send, Deliver, Check, Begin, Turn}
use Rattle.line_tape.specs.declared.steps.Step.TheVariants.{Damage, Bar, Recover}
use Rattle.line_world.specs.declared.replies.StepError.{StepError}
use Rattle.line_world.specs.declared.replies.StepError.TheVariants.{NoSuchProcess, TapeFull}
use Rattle.line_world.specs.declared.replies.StepError.TheVariants.{NoSuchCheck, StateTooLong}
use Rattle.line_world.specs.declared.replies.StepError.TheVariants.{InitialDamage, AlreadyDamaged}
use Rattle.line_world.specs.declared.replies.StepError.TheVariants.{ToSelf, LinkEmpty, BadPick}
use Rattle.line_world.specs.declared.replies.StepError.TheVariants.{RoundOpen, NothingToTurn}
use Rattle.line_world.specs.declared.replies.StepError.TheVariants.{WrongMode, NoMoreRounds}
use Rattle.line_world.specs.declared.replies.StepError.TheVariants.{NoMoreIncarnations, BarNotLower}
use Rattle.line_moves.specs.Fates.{events_taken}
use Rattle.line_tape.specs.Modes.{is_fifo}
use Rattle.line_world.specs.Machine.{Machine, items_on, is_open}

-- the first cause that holds
abbrev pub first_cause : List (Bool × StepError) → Option StepError
first_cause [] = None
first_cause (cause ∷ causes) = if cause.0 then Some cause.1 else first_cause causes

-- there is no process p
abbrev pub is_stranger : Machine → ℕ → Bool
is_stranger machine p = nat_le (length machine.history) p

-- a member of the set is no process: the set says `true` after its truth values for the processes
abbrev pub has_stranger : Machine → List Bool → Bool
has_stranger machine set = list_any (λ member. member) (drop (length machine.history) set)

-- the bytes are too many for a state
abbrev pub is_long : List ℕ → Bool
is_long state = nat_lt MOST_STATE (length state)

-- the tape of process p has no room for so many events
abbrev pub is_full : Machine → ℕ → ℕ → Bool
is_full machine p events = nat_lt MOST_EVENTS (length (tape_at machine.history p) + events)

-- in `Fifo` only the first item can be picked
abbrev pub is_bad_pick : Mode → List Item → ℕ → Bool
is_bad_pick Fifo items pick = not (pick == 0)
is_bad_pick Unordered items pick = nat_le (length items) pick

-- the tape of process `to` has no room for all events of the item that is picked
abbrev pub is_full_for : Machine → ℕ → ℕ → List ℕ → Option Item → Bool
is_full_for machine from to state None = false
is_full_for machine from to state (Some item) =
    is_full machine to (length (events_taken machine.mode machine.history from to state item))

-- a round is open of which process p has no check yet
abbrev pub may_turn : Machine → ℕ → Bool
may_turn machine p =
    is_open machine && not (has_check_of machine.last_round (tape_at machine.history p))

-- what refuses a delivery, whatever the item would have the process do
abbrev pub link_causes : Machine → ℕ → ℕ → ℕ → List ℕ → List (Bool × StepError)
link_causes machine from to pick state =
    (is_stranger machine from || is_stranger machine to, NoSuchProcess)
    ∷ (from == to, ToSelf)
    ∷ (is_long state, StateTooLong)
    ∷ (length (items_on machine from to) == 0, LinkEmpty)
    ∷ (is_bad_pick machine.mode (items_on machine from to) pick, BadPick)
    ∷ []

-- the first cause to refuse a step that can be told without a plan
abbrev pub refusal_of : Machine → Step → Option StepError
refusal_of machine (Send from to body) =
    first_cause (
    (is_stranger machine from || is_stranger machine to, NoSuchProcess)
    ∷ (from == to, ToSelf)
    ∷ (is_full machine from 1, TapeFull)
    ∷ [])
refusal_of machine (Deliver from to pick state) =
    first_cause
    (link_causes machine from to pick state
    ++ (is_full_for machine from to state (slice_get (items_on machine from to) pick), TapeFull)
    ∷ [])
refusal_of machine (Check at state) =
    first_cause (
    (is_stranger machine at, NoSuchProcess)
    ∷ (is_long state, StateTooLong)
    ∷ (is_full machine at 1, TapeFull)
    ∷ [])
refusal_of machine (Begin at state) =
    first_cause (
    (is_stranger machine at, NoSuchProcess)
    ∷ (is_long state, StateTooLong)
    ∷ (is_open machine, RoundOpen)
    ∷ (nat_le LAST_ROUND machine.last_round, NoMoreRounds)
    ∷ (is_full machine at 1, TapeFull)
    ∷ [])
refusal_of machine (Turn at state) =
    first_cause (
    (is_stranger machine at, NoSuchProcess)
    ∷ (is_fifo machine.mode, WrongMode)
    ∷ (is_long state, StateTooLong)
    ∷ (not (may_turn machine at), NothingToTurn)
    ∷ (is_full machine at 1, TapeFull)
    ∷ [])
refusal_of machine (Damage at check) =
    first_cause (
    (is_stranger machine at, NoSuchProcess)
    ∷ (check == 0, InitialDamage)
    ∷ (nat_lt (checks (tape_at machine.history at)) check, NoSuchCheck)
    ∷ (is_damaged machine.marks at check, AlreadyDamaged)
    ∷ [])
refusal_of machine (Bar at check) =
    first_cause (
    (is_stranger machine at, NoSuchProcess)
    ∷ (nat_lt (checks (tape_at machine.history at)) check, NoSuchCheck)
    ∷ (is_barred machine.marks at check, BarNotLower)
    ∷ [])
refusal_of machine (Recover failed) =
    first_cause ((has_stranger machine failed, NoSuchProcess) ∷ [])

-- the latest line takes a process back that has no further incarnation
pub record IsSpent (machine : Machine) (failed : List Bool) : Type 0 where
  pub line : List Choice
  pub latest : IsLatest machine.history machine.marks failed line
  pub spent : HaveFurther machine.history line → ⊥

-- a cause that takes a plan to tell: a Recover that names only processes is refused by want of
-- incarnations alone
abbrev pub IsLateCause : Machine → Step → StepError → Type 0
IsLateCause machine (Recover failed) NoMoreIncarnations = IsSpent machine failed
IsLateCause machine step e = ⊥

-- the step is refused by this cause, which comes first
abbrev pub IsRefused : Machine → Step → StepError → Option StepError → Type 0
IsRefused machine step e (Some cause) = e ≡ cause
IsRefused machine step e None = IsLateCause machine step e
