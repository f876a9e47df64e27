-- What a machine refuses to let go.
use Rattle.std.specs.Prelude.{◌≡◌, ℕ, ◌<◌, ◌==◌, Bool, true, if◌then◌else◌, List, [], ◌∷◌, length}
use Rattle.std.specs.Prelude.{Option, Some, None}
use Rattle.std.specs.List.{list_all, range_with_len}
use Rattle.line_names.specs.declared.choices.Choice.{Choice}
use Rattle.line_names.specs.declared.choices.Choice.TheVariants.{Check as AtCheck}
use Rattle.line_names.specs.Sets.{is_member}
use Rattle.line_tape.specs.Rounds.{check_line}
use Rattle.line_tape.specs.Survival.{survives, IsLatest}
use Rattle.line_tape.specs.declared.modes.Mode.{Mode}
use Rattle.line_tape.specs.declared.modes.Mode.TheVariants.{Fifo, Unordered}
use Rattle.line_moves.specs.Listed.{ListedRound, check_in}
use Rattle.line_world.specs.Machine.{Machine, is_open}
use Rattle.line_cuts.specs.Cuts.{Floor, FloorSurvives, IsFloor}
use Rattle.line_live.specs.declared.refusals.ForgetError.{ForgetError}
use Rattle.line_live.specs.declared.refusals.ForgetError.TheVariants.{WrongMode, RoundOpen}
use Rattle.line_live.specs.declared.refusals.ForgetError.TheVariants.{NoSuchRound, RoundLost}
use Rattle.line_cuts.specs.Floors.{floor_of_line}

-- the first of some listed rounds that has this number
abbrev pub listed_of : List ListedRound → ℕ → Option ListedRound
listed_of [] number = None
listed_of (round ∷ rounds) number =
    if round.number == number then Some round else listed_of rounds number

-- the checks of a round all survive, whoever failed
abbrev pub is_safe : Machine → ListedRound → Bool
is_safe machine round =
    list_all (λ p. survives machine.history machine.marks [] p (AtCheck (check_in round p)))
    (range_with_len 0 (length machine.history))

-- why nothing is let go before a round, if it is the one listed
abbrev pub round_refusal : Machine → Option ListedRound → Option ForgetError
round_refusal machine None = Some NoSuchRound
round_refusal machine (Some round) = if is_safe machine round then None else Some RoundLost

-- on links of this kind no floor is taken, or while a round is open
abbrev pub idle_refusal : Mode → Bool → Option ForgetError → Option ForgetError
idle_refusal Unordered is_open later = Some WrongMode
idle_refusal Fifo is_open later = if is_open then Some RoundOpen else later

-- why nothing is let go before the round of this number: the first cause that holds
abbrev pub forget_refusal : Machine → ℕ → Option ForgetError
forget_refusal machine number =
    idle_refusal machine.mode (is_open machine)
    (round_refusal machine (listed_of machine.rounds number))

-- the floor is at the checks of the round, and the machine may let go what stands before it
pub record IsFloorAt (machine : Machine) (round : ListedRound) (floor : Floor) : Type 0 where
  pub value : floor
      ≡ floor_of_line machine.history (check_line round.checks) machine.last_round
  pub is : IsFloor machine.history floor
  pub stays : FloorSurvives machine.history machine.marks floor

-- it is at those of the listed round of this number
pub record IsFloorOfRound (machine : Machine) (number : ℕ) (floor : Floor) : Type 0 where
  pub round : ListedRound
  pub listed : listed_of machine.rounds number ≡ Some round
  pub at : IsFloorAt machine round floor

-- it is at the latest line where each process fails
pub record IsFloorWhereAllFail (machine : Machine) (floor : Floor) : Type 0 where
  pub failed : List Bool
  pub all : (p : ℕ) → p < length machine.history → is_member failed p ≡ true
  pub line : List Choice
  pub latest : IsLatest machine.history machine.marks failed line
  pub value : floor ≡ floor_of_line machine.history line machine.last_round
  pub is : IsFloor machine.history floor
  pub stays : FloorSurvives machine.history machine.marks floor
