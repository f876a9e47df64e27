use Rattle.std.proofs.Common.{◌≡◌, ◌≤◌, ◌+◌}
use Rattle.line_posts.specs.Collected.{passed_count, HasCollectedMore}
use Rattle.line_posts.proofs.ReportLemmas.{InTurn}
use Rattle.line_posts.proofs.collectors.Collector.take.Given as goal

abbrev pub invariant-loop-p : goal.invariant-loop-p
invariant-loop-p l = record {
  more : HasCollectedMore l.fn.self l.self;
  count : passed_count l.self.lines ≡ passed_count l.fn.self.lines + l.taken;
  turn : InTurn l.fn.self l.self l.p l.taken l.fn.limit;
  limit : l.taken ≤ l.fn.limit;
}
