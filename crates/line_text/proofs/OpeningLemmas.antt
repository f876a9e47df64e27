-- The parts of a saved machine, put together.
use Rattle.std.proofs.Common.{◌≡◌, ℕ, List, map, ap, ap₂, ◌∙◌}
use Rattle.line_cuts.specs.Cuts.{Floor}
use Rattle.line_live.specs.Lives.{LiveMachine}
use Rattle.line_live.specs.Resumed.{CheckedRound}
use Rattle.line_world.specs.Machine.{Machine}
use Rattle.line_text.specs.Openings.{round_of_saved, saved_floor}

-- a floor of its parts
abbrev floor_by : List ℕ → List ℕ → ℕ → Floor
floor_by checks sends round = record { checks = checks; sends = sends; round = round }

pub floor_made : (floor : Floor) (floors : List (ℕ × ℕ)) (round : ℕ)
    → floor.checks ≡ map (λ (one : ℕ × ℕ). one.0) floors → floor.sends
    ≡ map (λ (one : ℕ × ℕ). one.1) floors → floor.round ≡ round → floor ≡ saved_floor floors round
floor_made floor floors round checks sends is =
    ap₂ (λ (c s : List ℕ). floor_by c s floor.round) checks sends ∙ ap
    (floor_by (map (λ (one : ℕ × ℕ). one.0) floors) (map (λ (one : ℕ × ℕ). one.1) floors)) is

-- a round of its parts
abbrev round_by : ℕ → List ℕ → CheckedRound
round_by number checks = record { number = number; checks = checks }

pub round_made : (round : CheckedRound) (number : ℕ) (checks : List ℕ) → round.number ≡ number
    → round.checks ≡ checks → round ≡ round_of_saved (number, checks)
round_made round number checks one other = ap₂ round_by one other

-- a machine of its parts
abbrev live_by : Floor → Machine → LiveMachine
live_by floor kept = record { floor = floor; kept = kept }

pub live_made : (live : LiveMachine) (floor : Floor) (kept : Machine) → live.floor ≡ floor
    → live.kept ≡ kept → live ≡ record { floor = floor; kept = kept }
live_made live floor kept one other = ap₂ live_by one other
