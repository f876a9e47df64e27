use Rattle.std.proofs.Common.{length, inl, inr}
use Rattle.line_posts.proofs.WholeLemmas.{none_below}
use Rattle.line_workers.proofs.drills.gather_all.Goals as goal

pub unreachable-requires : goal.unreachable-requires
unreachable-requires c = elim c.in-NoSuchProcess.is [
  | inl e ↦ c.in-Err.ensures.process.0 e
      (none_below (length c.args.collector.opening) c.empty.result c.empty.ensures.none)
  | inr e ↦ (c.in-Err.ensures.unfinished.0 e).1 c.requires.whole
]
