-- Turns: where on its tape a process changed its colour, counted by sends (Lai and Yang,
-- Information Processing Letters 25(3), 1987).
use Rattle.std.specs.Prelude.{ℕ, suc, nat_le, List, [], ◌∷◌, map, filter, Some, None}
use Rattle.line_tape.specs.declared.events.Event.{Event}
use Rattle.line_tape.specs.declared.events.Event.TheVariants.{Send, Recv, Check, Mark}
use Rattle.line_tape.specs.Colours.{greatest}

-- a check of a round, and how many sends of its tape stand before it
pub record Turn : Type 0 where
  pub round : ℕ
  pub sends : ℕ

-- the turns among these events, so many sends standing before the first of them
abbrev pub turns_from : ℕ → List Event → List Turn
turns_from count [] = []
turns_from count (Send to inc body ∷ rest) = turns_from (suc count) rest
turns_from count (Recv message ∷ rest) = turns_from count rest
turns_from count (Check state None ∷ rest) = turns_from count rest
turns_from count (Check state (Some round) ∷ rest) =
    record { round = round; sends = count } ∷ turns_from count rest
turns_from count (Mark from round ∷ rest) = turns_from count rest

-- the turns of a tape
abbrev pub turns_of : List Event → List Turn
turns_of tape = turns_from 0 tape

-- the rounds of some turns
abbrev pub rounds_of : List Turn → List ℕ
rounds_of turns = map (λ (turn : Turn). turn.round) turns

-- the colour of the send of that number: the greatest round among the turns with no more sends
-- before them, or 0
abbrev pub colour_by : List Turn → ℕ → ℕ
colour_by turns number =
    greatest (rounds_of (filter (λ (turn : Turn). nat_le turn.sends number) turns))
