use Rattle.line_posts.specs.Ends.{out_rows, in_rows, AreLinked, HaveAllFree}
use Rattle.line_posts.proofs.links.make_rings.Given as goal

abbrev pub invariant-loop-p : goal.invariant-loop-p
invariant-loop-p g l = record {
  linked : AreLinked l._p l.receivers (out_rows l.outs.items) (in_rows l.ins.items);
  capacity : HaveAllFree l.capacity l.outs.items;
}
