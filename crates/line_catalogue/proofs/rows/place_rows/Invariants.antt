use Rattle.std.proofs.Common.{◌≡◌, ◌<◌, ◌≤◌, ℕ, length, get_or, vec_capacity}
use Rattle.line_names.specs.declared.choices.Choice.TheVariants.{Check as AtCheck}
use Rattle.line_tape.specs.Front.{place}
use Rattle.line_catalogue.specs.declared.kept_rows.KeptRow.{KeptRow}
use Rattle.line_catalogue.proofs.rows.place_rows.Given as goal

abbrev pub invariant-loop-c : goal.invariant-loop-c
invariant-loop-c l = record {
  count : length l.rows.items ≡ length l.fn.rows.items;
  capacity : vec_capacity l.rows ≡ vec_capacity l.fn.rows;
  within : l.c ≤ length l.fn.rows.items;
  placed : (k : ℕ) (d : KeptRow) → l.c ≤ k → k < length l.fn.rows.items
      → (get_or l.rows.items k d).place ≡ place l.tape.events (AtCheck k);
  left : (k : ℕ) (d : KeptRow) → k < l.c
      → (get_or l.rows.items k d).place ≡ (get_or l.fn.rows.items k d).place;
  sends_same : (k : ℕ) (d : KeptRow)
      → (get_or l.rows.items k d).sends ≡ (get_or l.fn.rows.items k d).sends;
  damaged_same : (k : ℕ) (d : KeptRow)
      → (get_or l.rows.items k d).damaged ≡ (get_or l.fn.rows.items k d).damaged;
  start_same : (k : ℕ) (d : KeptRow)
      → (get_or l.rows.items k d).start ≡ (get_or l.fn.rows.items k d).start;
}
