use Rattle.std.proofs.Common.{◌≡◌, ◌≢◌, ℕ, length}
use Rattle.line_posts.specs.Ends.{row_at}
use Rattle.line_posts.specs.Gathering.{rows_of, IsOnWay}
use Rattle.line_posts.proofs.further.add_events.Given as goal

abbrev pub invariant-events : goal.invariant-events
invariant-events l = record {
  way : IsOnWay l.fn.catalogue.processes (rows_of l.fn.further.items) l.catalogue.processes
      l.catalogue.rooms (rows_of l.further.items);
  marks : l.catalogue.marks ≡ l.fn.catalogue.marks;
  others : (k : ℕ) → k ≢ l.fn.p
      → row_at (rows_of l.further.items) k ≡ row_at (rows_of l.fn.further.items) k;
}

abbrev pub decreases-events : goal.decreases-events
decreases-events l = length (row_at (rows_of l.further.items) l.fn.p)
