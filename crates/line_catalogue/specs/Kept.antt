-- What a catalogue keeps beside its history, so that no question scans it.
use Rattle.std.specs.Prelude.{◌≡◌, ℕ, ◌<◌, List, [], length, slice_index_or}
use Rattle.line_tape.specs.History.{Process, tape_at}
use Rattle.line_tape.specs.Views.{MarksView, damaged_at}
use Rattle.line_vectors.specs.Reach.{reach_of}
use Rattle.line_catalogue.specs.declared.kept_rows.Row.{Row}
use Rattle.line_catalogue.specs.Agreement.{Agrees}
use Rattle.line_catalogue.specs.Damage.{AreOnChecks}
use Rattle.line_catalogue.specs.Rows.{AreRows}

-- the rows of one process, the vector of where it stands, and how many further events are taken
-- with no more memory
pub record RowsView : Type 0 where
  pub rows : List Row
  pub present : List ℕ
  pub room : ℕ

-- the same of all processes
pub record TableView : Type 0 where
  pub rows : List (List Row)
  pub presents : List (List ℕ)
  pub rooms : List ℕ

-- the rows of process p
abbrev pub rows_at : List (List Row) → ℕ → List Row
rows_at rows p = slice_index_or rows p []

-- the vector of where process p stands
abbrev pub present_at : List (List ℕ) → ℕ → List ℕ
present_at presents p = slice_index_or presents p []

-- an agreeing history, marks of its checks, and the rows and vectors that tell of both
pub record IsCatalogue (history : List Process) (marks : MarksView) (rows : List (List Row))
    (presents : List (List ℕ)) : Type 0 where
  pub agrees : Agrees history
  pub marked : AreOnChecks history marks
  pub marks_count : length marks.damaged ≡ length history
  pub rows_count : length rows ≡ length history
  pub presents_count : length presents ≡ length history
  pub shown : (p : ℕ) → p < length history
      → AreRows (length history) (tape_at history p) (damaged_at marks p) (rows_at rows p)
  pub heard : (p : ℕ) → p < length history
      → present_at presents p ≡ reach_of (length history) (tape_at history p)
