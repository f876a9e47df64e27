use Rattle.std.proofs.Common.{◌≡◌, ◌≤◌, [], replicate}
use Rattle.std.specs.Prelude.{vec_len, vec_capacity}
use Rattle.line_catalogue.proofs.numbers.empty_rows.Given as goal

abbrev pub invariant-loop-p : goal.invariant-loop-p
invariant-loop-p l = record {
  made : l.rows.items ≡ replicate l._p [];
  len : vec_len l.rows ≡ l._p;
  room : l.n ≤ vec_capacity l.rows;
}
