use Rattle.line_workers.proofs.WaitLemmas.{cause_from, cause_later}
use Rattle.line_workers.proofs.workers.obey.Goals as goal

pub returns-in_default : goal.returns-in_default
returns-in_default c = record {
  done = tt;
  cause = cause_from c.args.order.now _ c.args.post.now
      c.loop-turn.post c.try_order.new.post c.loop-turn.invariant c.in_default.ensures.cause;
}

pub returns-clause-cause : goal.returns-clause-cause
returns-clause-cause c = cause_later c.try_order-2.result c.args.order.now c.args.post.now
    c.loop-turn.post c.try_order-2.new.post c.loop-turn.invariant c.try_order-2.ensures.cause
