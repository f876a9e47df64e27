use Rattle.std.proofs.Common.{◌≡◌, ℕ, ◌<◌, length, map}
use Rattle.std.specs.Prelude.{◌≤◌, vec_len, vec_capacity}
use Rattle.line_tape.specs.History.{tape_at}
use Rattle.line_tape.specs.Views.{damaged_at}
use Rattle.line_vectors.specs.Reach.{reach_of}
use Rattle.line_catalogue.specs.Kept.{rows_at, present_at}
use Rattle.line_catalogue.specs.Plain.{check_rows_of, present_of}
use Rattle.line_catalogue.specs.Rows.{AreRows}
use Rattle.line_catalogue.proofs.tables.RowTable.of.Given as goal

abbrev pub invariant-loop-q : goal.invariant-loop-q
invariant-loop-q l = record {
  count : length l.table.items ≡ l.q;
  len : vec_len l.table ≡ l.q;
  room : l.n ≤ vec_capacity l.table;
  shown : (p : ℕ) → p < l.q → AreRows l.n (tape_at l.history.processes p) (damaged_at l.marks p)
      (rows_at (map check_rows_of l.table.items) p);
  heard : (p : ℕ) → p < l.q
      → present_at (map present_of l.table.items) p ≡ reach_of l.n (tape_at l.history.processes p);
}
