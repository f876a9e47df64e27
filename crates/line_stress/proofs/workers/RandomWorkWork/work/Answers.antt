use Rattle.line_posts.proofs.SameLemmas.{same_then}
use Rattle.line_stress.proofs.workers.RandomWorkWork.work.Goals as goal

pub loop-turn-preserved : goal.loop-turn-preserved
loop-turn-preserved c = same_then _ _ _ c.loop-turn.invariant c.turn.ensures
