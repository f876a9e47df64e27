-- The list of the rounds that are completed, as it is kept.
use Rattle.std.specs.Prelude.{ℕ, ◌≤◌, List, AllPairs}
use Rattle.line_moves.specs.Listed.{ListedRound, check_in}

-- the listed rounds, and how many further ones take no memory
pub record ListingView : Type 0 where
  pub items : List ListedRound
  pub room : ℕ

-- no check of the first round is later than that of the same process in the second
abbrev pub IsBelow : ListedRound → ListedRound → Type 0
IsBelow a b = (p : ℕ) → check_in a p ≤ check_in b p

-- no round has a check that is later than one of the same process in a round after it
abbrev pub Climb : List ListedRound → Type 0
Climb rounds = AllPairs IsBelow rounds
