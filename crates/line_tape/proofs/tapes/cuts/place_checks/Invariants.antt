use Rattle.std.proofs.Common.{◌≡◌, ◌≤◌}
use Rattle.std.specs.Prelude.{vec_len, vec_capacity}
use Rattle.line_tape.proofs.IndexLemmas.{ArePlaced}
use Rattle.line_tape.proofs.tapes.cuts.place_checks.Given as goal

abbrev pub invariant-loop-i : goal.invariant-loop-i
invariant-loop-i l = record {
  placed : ArePlaced l.events l.fn.rows.items l.rows.items l.i l.index;
  from : l.settled ≤ l.i;
  many : vec_len l.rows ≡ vec_len l.fn.rows;
  capacity : vec_capacity l.rows ≡ vec_capacity l.fn.rows;
}
