use Rattle.line_posts.proofs.ReportLemmas.{more_then}
use Rattle.line_two_sums.proofs.sums.SumsWork.collect.Goals as goal

pub loop-turn-preserved : goal.loop-turn-preserved
loop-turn-preserved c = more_then _ _ _ c.loop-turn.invariant c.take.ensures.more
