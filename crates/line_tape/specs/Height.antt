-- The way down from the first ceilings, and how far down it can go.
use Rattle.std.specs.Prelude.{ℕ, ◌+◌, List, [], ◌∷◌}
use Rattle.line_names.specs.declared.choices.Choice.{Choice}
use Rattle.line_names.specs.declared.choices.Choice.TheVariants.{Check as AtCheck, Now}
use Rattle.line_tape.specs.declared.events.Event.{Event}
use Rattle.line_tape.specs.Event.{checks}
use Rattle.line_tape.specs.History.{Process}

-- how many choices of the tape stand below a choice
abbrev pub rank : List Event → Choice → ℕ
rank tape (AtCheck c) = c
rank tape Now = checks tape + 1

-- how many choices stand below a line, of all processes together
abbrev pub height : List Process → List Choice → ℕ
height [] line = 0
height (process ∷ rest) [] = 0
height (process ∷ rest) (choice ∷ line) = rank process.tape choice + height rest line
