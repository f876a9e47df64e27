-- Which sends before a line are received, as the receipts of the processes are gone through.
use Rattle.std.specs.Prelude.{◌≡◌, ℕ, ◌<◌, ◌≤◌, ◌==◌, nat_lt, Bool, false, if◌then◌else◌, List, []}
use Rattle.std.specs.Prelude.{length, slice_get, slice_index_or, Some}
use Rattle.line_names.specs.declared.choices.Choice.{Choice}
use Rattle.line_tape.specs.declared.events.Event.{Event}
use Rattle.line_tape.specs.Event.{incarnations_sent, sends}
use Rattle.line_tape.specs.History.{Process}
use Rattle.line_tape.specs.Line.{events_before}
use Rattle.line_tape.specs.Transit.{addressees, has_received}

-- what is seen of each process, once these events are seen of process q
abbrev pub with_seen : (ℕ → List Event) → ℕ → List Event → ℕ → List Event
with_seen seen q events p = if p == q then events else seen p

-- of the processes below q all is seen that they did before the line, and nothing of the others
abbrev pub seen_below : List Process → List Choice → ℕ → ℕ → List Event
seen_below history line q p = if nat_lt p q then events_before history line p else []

-- there is a flag for each send before the line, by process and number
pub record HasFlags (history : List Process) (line : List Choice) (flags : List (List Bool))
    : Type 0 where
  pub processes : length history ≤ length flags
  pub sends_of : (p : ℕ) → p < length history
      → sends (events_before history line p) ≤ length (slice_index_or flags p [])

-- no flag is set, and there are as many as before
pub record AreCleared (old new : List (List Bool)) : Type 0 where
  pub processes : length new ≡ length old
  pub sends_of : (p : ℕ) → length (slice_index_or new p []) ≡ length (slice_index_or old p [])
  pub none : (p k : ℕ) → slice_index_or (slice_index_or new p []) k false ≡ false

-- the flag of each send of process p before the line tells whether what is seen of its addressee
-- receives it
pub record IsTold (history : List Process) (line : List Choice) (seen : ℕ → List Event) (p : ℕ)
    (flags : List Bool) : Type 0 where
  pub each : (k inc to : ℕ)
      → slice_get (incarnations_sent (events_before history line p)) k ≡ Some inc
      → slice_get (addressees (events_before history line p)) k ≡ Some to
      → slice_index_or flags k false
      ≡ has_received (seen to) (record { from = p; inc = inc; number = k })

-- there is a flag for each send before the line, and each tells that
pub record AreTold (history : List Process) (line : List Choice) (seen : ℕ → List Event)
    (flags : List (List Bool)) : Type 0 where
  pub whole : HasFlags history line flags
  pub each : (p : ℕ) → p < length history → IsTold history line seen p (slice_index_or flags p [])
