use Rattle.std.proofs.Common.{◌≡◌, ◌<◌, [], ℕ}
use Rattle.line_posts.specs.Ends.{row_at}
use Rattle.line_posts.specs.Gathering.{rows_of, IsOnWay}
use Rattle.line_posts.proofs.further.add_and_keep.Given as goal

abbrev pub invariant-loop-r : goal.invariant-loop-r
invariant-loop-r l = record {
  way : IsOnWay l.fn.catalogue.processes (rows_of l.fn.further.items) l.catalogue.processes
      l.catalogue.rooms (rows_of l.further.items);
  marks : l.catalogue.marks ≡ l.fn.catalogue.marks;
  done : (k : ℕ) → k < l.r → row_at (rows_of l.further.items) k ≡ [];
}
