use Rattle.std.proofs.Common.{◌≡◌, ◌<◌, ◌≤◌, ◌^◌, ℕ, length}
use Rattle.std.specs.Prelude.{◌+◌, vec_len, vec_capacity}
use Rattle.std.specs.List.Sorted.{IsNonDecreasing}
use Rattle.line_catalogue.specs.Left.{start_at}
use Rattle.line_catalogue.proofs.known.find_starts.Given as goal

abbrev pub invariant-loop-q : goal.invariant-loop-q
invariant-loop-q l = record {
  count : length l.starts.items ≡ l.q;
  len : vec_len l.starts ≡ l.q;
  room : l.n + 1 ≤ vec_capacity l.starts;
  sorted : IsNonDecreasing l.starts.items;
  fits : l.start < 2 ^ 64;
  below : (p : ℕ) → start_at l.starts.items p ≤ l.start;
}
