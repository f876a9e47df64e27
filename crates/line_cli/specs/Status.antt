-- How the program ends.
use Rattle.std.specs.Prelude.{ℕ, ◌==◌, ◌||◌, if◌then◌else◌}
use Rattle.line_text.specs.declared.outcomes.Outcome.{Outcome}
use Rattle.line_text.specs.declared.outcomes.Outcome.TheVariants.{Done, Faulted, Refused}

-- the status that goes with the worst that a service answered
abbrev pub status_of_service : Outcome → ℕ
status_of_service Done = 0
status_of_service Refused = 1
status_of_service Faulted = 2

-- the status that goes with a fault: 3 where memory is out, or a device or a thread failed, and 2
-- where the input was bad
abbrev pub status_of : ℕ → ℕ
status_of code = if (code == 0) || (code == 36) || (code == 37) || (code == 39) then 3 else 2

-- the status that goes with a drill that did not end well: 3 where memory is out or a thread
-- failed, and 1 where a worker could not do its orders
abbrev pub status_of_drill : ℕ → ℕ
status_of_drill code = if (code == 0) || (code == 39) then 3 else 1
