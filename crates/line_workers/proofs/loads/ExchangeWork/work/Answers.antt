use Rattle.line_posts.proofs.SameLemmas.{same_then}
use Rattle.line_workers.proofs.loads.ExchangeWork.work.Goals as goal

pub loop-turn-preserved : goal.loop-turn-preserved
loop-turn-preserved c = same_then _ _ _ c.loop-turn.invariant
    (same_then _ _ _ c.send_each.ensures c.receive_each.ensures)

pub returns-then-not-send_each : goal.returns-then-not-send_each
returns-then-not-send_each c = same_then _ _ _ c.loop-turn.invariant c.send_each.ensures

pub returns-then-not-receive_each : goal.returns-then-not-receive_each
returns-then-not-receive_each c = same_then _ _ _ c.loop-turn.invariant
    (same_then _ _ _ c.send_each.ensures c.receive_each.ensures)
