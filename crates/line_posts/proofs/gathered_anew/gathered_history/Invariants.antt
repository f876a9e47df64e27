use Rattle.std.proofs.Common.{◌≡◌}
use Rattle.line_posts.specs.Ends.{in_ends, known_rows, StillKnow}
use Rattle.line_posts.proofs.AnewLemmas.{AreCopied}
use Rattle.line_posts.proofs.gathered_anew.gathered_history.Given as goal

abbrev pub invariant-loop-r : goal.invariant-loop-r
invariant-loop-r l = record {
  lines : in_ends l.lines.items ≡ in_ends l.fn.lines.items;
  seen : StillKnow (known_rows l.fn.lines.items) l.lines.items;
  posts : l.posts.items ≡ l.fn.posts.items;
  copied : AreCopied l.fn.n l.fn.failed
      (in_ends l.fn.lines.items) l.fn.posts.items l.r l.history.processes;
}
