use Rattle.line_posts.proofs.SameLemmas.{same_then}
use Rattle.line_stress.proofs.workers.RandomWork.sweep.Goals as goal

pub loop-places-preserved : goal.loop-places-preserved
loop-places-preserved c = same_then _ _ _ c.loop-places.invariant c.receive.ensures
