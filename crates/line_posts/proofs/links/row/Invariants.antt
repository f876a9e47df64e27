use Rattle.std.proofs.Common.{◌≡◌, length}
use Rattle.std.specs.Prelude.{All}
use Rattle.line_posts.specs.Ends.{out_ends, in_rows, rows_with_items, AreFresh, HasAllFree}
use Rattle.line_posts.proofs.links.row.Given as goal

abbrev pub invariant-loop-q : goal.invariant-loop-q
invariant-loop-q g l = record {
  within : l.n ≡ length l.fn.ins.items;
  long : length l.ins.items ≡ l.n;
  count : length l.outs.items ≡ l.q;
  dealt_is : in_rows l.ins.items ≡ rows_with_items (in_rows l.fn.ins.items) (out_ends l.outs.items);
  fresh : AreFresh (out_ends l.outs.items);
  free : All (HasAllFree l.capacity) l.outs.items;
}
