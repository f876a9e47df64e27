use Rattle.std.proofs.Common.{◌≡◌, ◌≤◌, length}
use Rattle.std.specs.Prelude.{vec_capacity}
use Rattle.line_posts.specs.Ends.{in_ends, known_rows, StillKnow}
use Rattle.line_posts.specs.Gathering.{rows_of, AreFurtherBelow}
use Rattle.line_posts.proofs.further.further_of_all.Given as goal

abbrev pub invariant-loop-r : goal.invariant-loop-r
invariant-loop-r l = record {
  processes : l.catalogue.processes ≡ l.fn.catalogue.processes;
  marks : l.catalogue.marks ≡ l.fn.catalogue.marks;
  lines : in_ends l.lines.items ≡ in_ends l.fn.lines.items;
  seen : StillKnow (known_rows l.fn.lines.items) l.lines.items;
  posts : l.posts.items ≡ l.fn.posts.items;
  further : AreFurtherBelow l.r l.failed l.fn.catalogue.processes l.catalogue.rooms l.fn.posts.items
      (rows_of l.further.items);
  room : length l.fn.catalogue.processes ≤ vec_capacity l.further;
}
