use Rattle.line_posts.proofs.SameLemmas.{same_then}
use Rattle.line_two_sums.proofs.sums.SumsWork.work.Goals as goal

pub loop-turn-preserved : goal.loop-turn-preserved
loop-turn-preserved c = same_then _ _ _ c.loop-turn.invariant c.turn.ensures

pub returns-then-not-turn : goal.returns-then-not-turn
returns-then-not-turn c = same_then _ _ _ c.loop-turn.invariant c.turn.ensures
