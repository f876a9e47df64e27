-- The colours of processes (Lai and Yang, Information Processing Letters 25(3), 1987), with round
-- numbers for white and red.
use Rattle.std.specs.Prelude.{ℕ, List, [], ◌∷◌, max}

-- the greatest of the round numbers of a process's checks; 0 where it has none (as line_tape says
-- it of a tape by `colour`)
abbrev pub colour_of : List ℕ → ℕ
colour_of [] = 0
colour_of (round ∷ rounds) = max round (colour_of rounds)
