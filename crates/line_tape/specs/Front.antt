-- The front of a choice: the events of its tape that stand before it (Elnozahy, Alvisi, Wang and
-- Johnson, ACM Computing Surveys 34(3), 2002).
use Rattle.std.specs.Prelude.{ℕ, zero, suc, ◌≤◌, if◌then◌else◌, List, [], ◌∷◌, length, take}
use Rattle.line_names.specs.declared.choices.Choice.{Choice}
use Rattle.line_names.specs.declared.choices.Choice.TheVariants.{Check as AtCheck, Now}
use Rattle.line_tape.specs.declared.events.Event.{Event}
use Rattle.line_tape.specs.Event.{is_check, checks}

-- how many events stand up to and including check c; none for the initial state, all where the tape
-- has no such check
abbrev pub check_place : List Event → ℕ → ℕ
check_place tape zero = 0
check_place [] (suc c) = 0
check_place (event ∷ rest) (suc c) = suc (check_place rest (if is_check event then c else suc c))

-- how many events stand before a choice
abbrev pub place : List Event → Choice → ℕ
place tape (AtCheck c) = check_place tape c
place tape Now = length tape

-- the events that stand before a choice
abbrev pub front : List Event → Choice → List Event
front tape choice = take (place tape choice) tape

-- the tape has that choice
abbrev pub HasChoice : List Event → Choice → Type 0
HasChoice tape (AtCheck c) = c ≤ checks tape
HasChoice tape Now = Unit {0}
