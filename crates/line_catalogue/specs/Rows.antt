-- What is shown of the checks of a process.
use Rattle.std.specs.Prelude.{◌≡◌, ℕ, ◌+◌, ◌<◌, ◌≤◌, ◌==◌, false, true, List, [], ◌∷◌, ◌++◌, length}
use Rattle.std.specs.Prelude.{take, slice_index_or, slice_set, Option, Some, None}
use Rattle.std.specs.List.{list_any}
use Rattle.line_names.specs.declared.choices.Choice.{Choice}
use Rattle.line_names.specs.declared.choices.Choice.TheVariants.{Check as AtCheck, Now}
use Rattle.line_tape.specs.declared.events.Event.{Event}
use Rattle.line_tape.specs.declared.events.Event.TheVariants.{Send, Recv, Check, Mark}
use Rattle.line_tape.specs.Event.{checks, sends}
use Rattle.line_tape.specs.Front.{place, front}
use Rattle.line_vectors.specs.Reach.{reach_of, nearest}
use Rattle.line_vectors.specs.Vectors.{lanes_with_message}
use Rattle.line_catalogue.specs.declared.kept_rows.Row.{Row}

-- the row tells how many events and sends stand before check c, whether it is among the damaged
-- ones, and its vector, of n lanes
pub record IsRow (n : ℕ) (tape : List Event) (damaged : List ℕ) (c : ℕ) (row : Row)
    : Type 0 where
  pub place_is : row.place ≡ place tape (AtCheck c)
  pub sends_is : row.sends ≡ sends (front tape (AtCheck c))
  pub damaged_is : row.damaged ≡ list_any (λ check. check == c) damaged
  pub reach_is : row.reach ≡ reach_of n (front tape (AtCheck c))

-- one row for each check of the tape, from the initial state on
pub record AreRows (n : ℕ) (tape : List Event) (damaged : List ℕ) (rows : List Row)
    : Type 0 where
  pub count : length rows ≡ checks tape + 1
  pub each : (c : ℕ) (d : Row) → c ≤ checks tape
      → IsRow n tape damaged c (slice_index_or rows c d)

-- the row of a check without damage
abbrev pub new_row : ℕ → ℕ → List ℕ → Row
new_row place sends reach = record { place = place; sends = sends; damaged = false; reach = reach }

-- a row that tells of nothing, for a check that there isn't
abbrev pub no_row : Row
no_row = new_row 0 0 []

-- the rows with check c damaged
abbrev pub with_damage : List Row → ℕ → List Row
with_damage rows c = slice_set rows c (record (slice_index_or rows c no_row) { damaged = true })

-- the row that an event adds to those of its tape: one where it is a check, with the vector of
-- where the process stands
abbrev pub row_added : ℕ → ℕ → List ℕ → Event → Option Row
row_added place sends present (Send to inc body) = None
row_added place sends present (Recv message) = None
row_added place sends present (Check state round) = Some (new_row place sends present)
row_added place sends present (Mark from round) = None

-- the rows with one more, if there is one
abbrev pub with_row : List Row → Option Row → List Row
with_row rows None = rows
with_row rows (Some row) = rows ++ row ∷ []

-- the vector of where a process stands once an event is added: a receipt is noted
abbrev pub vector_after_event : List ℕ → Event → List ℕ
vector_after_event present (Send to inc body) = present
vector_after_event present (Recv message) = lanes_with_message present (nearest message)
vector_after_event present (Check state round) = present
vector_after_event present (Mark from round) = present

-- the vector of a choice
abbrev pub vector_at : List Row → List ℕ → Choice → List ℕ
vector_at rows present (AtCheck c) = (slice_index_or rows c no_row).reach
vector_at rows present Now = present

-- the rows up to a choice
abbrev pub rows_kept : Choice → List Row → List Row
rows_kept (AtCheck c) rows = take (c + 1) rows
rows_kept Now rows = rows

-- the rows with the places that their checks have on this tape, and otherwise as they were
pub record WithPlaces (tape : List Event) (old new : List Row) : Type 0 where
  pub count : length new ≡ length old
  pub places : (c : ℕ) (d : Row) → c < length old
      → (slice_index_or new c d).place ≡ place tape (AtCheck c)
  pub sends_same : (c : ℕ) (d : Row)
      → (slice_index_or new c d).sends ≡ (slice_index_or old c d).sends
  pub damaged_same : (c : ℕ) (d : Row)
      → (slice_index_or new c d).damaged ≡ (slice_index_or old c d).damaged
  pub reach_same : (c : ℕ) (d : Row)
      → (slice_index_or new c d).reach ≡ (slice_index_or old c d).reach

-- where a check stands on this tape as its row says, so does each one before it
pub record AreInStep (tape : List Event) (rows : List Row) : Type 0 where
  pub each : (k c : ℕ) (d : Row) → k ≤ c → c < length rows
      → (slice_index_or rows c d).place ≡ place tape (AtCheck c)
      → (slice_index_or rows k d).place ≡ place tape (AtCheck k)
