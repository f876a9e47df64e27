-- How what is left of a tape is added, event by event.
use Rattle.std.specs.Prelude.{◌≡◌, ◌≢◌, ◌-◌, ◌+◌, ◌≤◌, ℕ, List, [], ◌∷◌, ◌++◌, length}
use Rattle.line_tape.specs.declared.events.Event.{Event}
use Rattle.line_tape.specs.Event.{checks, sends}
use Rattle.line_tape.specs.History.{Process, process_at, tape_at, incarnation_at}
use Rattle.line_cuts.specs.Cuts.{Floor, cut_events}

-- of an event of process p, whose next send has that number and whose floor is the check of index
-- `skip` from there on, what is left was added to the tape of p in another history, and nothing
-- else
pub record AddsLeft (floor : Floor) (p number skip : ℕ) (event : Event)
    (old new : List Process) : Type 0 where
  pub tape : (rest : List Event)
      → tape_at new p
      ++ cut_events floor p (number + sends (event ∷ [])) (skip - checks (event ∷ [])) rest
      ≡ tape_at old p ++ cut_events floor p number skip (event ∷ rest)
  pub few : length (tape_at new p) ≤ length (tape_at old p) + 1
  pub count : length new ≡ length old
  pub incarnation : incarnation_at new p ≡ incarnation_at old p
  pub others : (q : ℕ) → q ≢ p → process_at new q ≡ process_at old q
