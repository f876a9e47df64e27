use Rattle.std.proofs.Common.{◌≡◌, ◌≢◌, ◌+◌, ℕ}
use Rattle.line_posts.specs.Ends.{items_at}
use Rattle.line_posts.specs.Collected.{passed_count, HasCollectedMore, HasLeft}
use Rattle.line_posts.proofs.collectors.Collector.take_from.Given as goal

abbrev pub invariant-loop-i : goal.invariant-loop-i
invariant-loop-i l = record {
  more : HasCollectedMore l.fn.self l.self;
  others : (q : ℕ) → q ≢ l.fn.p → HasLeft l.fn.self q l.self;
  none : l.i ≡ 0 → items_at l.self.lines l.fn.p ≡ items_at l.fn.self.lines l.fn.p;
  count : passed_count l.self.lines ≡ passed_count l.fn.self.lines + l.i;
}
