use Rattle.line_posts.proofs.ReportLemmas.{more_then}
use Rattle.line_stress.proofs.workers.RandomWorkWork.collect.Goals as goal

pub loop-look-preserved : goal.loop-look-preserved
loop-look-preserved c = more_then _ _ _ c.loop-look.invariant c.look.ensures

pub returns-then-is_last : goal.returns-then-is_last
returns-then-is_last c = more_then _ _ _ c.loop-look.invariant c.look.ensures
