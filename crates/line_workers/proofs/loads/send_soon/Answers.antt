use Rattle.line_posts.proofs.SameLemmas.{same_then}
use Rattle.line_workers.proofs.loads.send_soon.Goals as goal

pub loop-turn-preserved : goal.loop-turn-preserved
loop-turn-preserved c = same_then _ _ _ c.loop-turn.invariant c.send.ensures.same

pub returns-then-ne : goal.returns-then-ne
returns-then-ne c = same_then _ _ _ c.loop-turn.invariant c.send.ensures.same
