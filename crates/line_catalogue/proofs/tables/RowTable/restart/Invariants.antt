use Rattle.std.proofs.Common.{◌≡◌, ℕ, ◌<◌, ◌≤◌, length, map, get_or}
use Rattle.line_names.specs.Lines.{choice_at}
use Rattle.line_tape.specs.History.{tape_at}
use Rattle.line_catalogue.specs.Kept.{rows_at, present_at}
use Rattle.line_catalogue.specs.Plain.{check_rows_of, present_of, rows_room}
use Rattle.line_catalogue.specs.Rows.{WithPlaces, rows_kept, vector_at}
use Rattle.line_catalogue.proofs.tables.RowTable.restart.Given as goal

abbrev pub invariant-loop-q : goal.invariant-loop-q
invariant-loop-q l = record {
  count : length l.self-inside.table.items ≡ length l.fn.self.rows;
  gone : (p : ℕ) → p < l.q → WithPlaces (tape_at l.history.processes p) (rows_kept (choice_at l.line
      p) (rows_at l.fn.self.rows p)) (rows_at (map check_rows_of l.self-inside.table.items) p);
  heard : (p : ℕ) → p < l.q → present_at (map present_of l.self-inside.table.items) p
      ≡ vector_at (rows_at l.fn.self.rows p) (present_at l.fn.self.presents p) (choice_at l.line p);
  rows_left : (p : ℕ) → l.q ≤ p
      → rows_at (map check_rows_of l.self-inside.table.items) p ≡ rows_at l.fn.self.rows p;
  presents_left : (p : ℕ) → l.q ≤ p
      → present_at (map present_of l.self-inside.table.items) p ≡ present_at l.fn.self.presents p;
  rooms : (p : ℕ)
      → get_or l.fn.self.rooms p 0 ≤ get_or (map rows_room l.self-inside.table.items) p 0;
}
