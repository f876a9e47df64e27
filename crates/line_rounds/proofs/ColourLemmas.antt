-- The greatest round number of a process's checks, as checks are added.
use Rattle.std.proofs.Common.{◌≡◌, ℕ, ◌<◌, List, [], ◌∷◌, ◌++◌, arith}
use Rattle.line_rounds.specs.Colours.{colour_of}

-- a greater number at the end is the greatest
pub colour_of-push : (rounds : List ℕ) (round : ℕ) → colour_of rounds < round
    → round ≡ colour_of (rounds ++ round ∷ [])
colour_of-push [] round h = omega arith
colour_of-push (x ∷ rounds) round h =
    let rest : round ≡ colour_of (rounds ++ round ∷ []) = colour_of-push rounds round
    (omega arith) in omega arith
