use Rattle.std.proofs.Common.{◌∷◌, [], sym, subst}
use Rattle.std.specs.Prelude.{OnOk}
use Rattle.line_workers.specs.declared.orders.Order.{Order}
use Rattle.line_workers.specs.Followed.{HasDone}
use Rattle.line_workers.proofs.DrillLemmas.{on_ok_done, done_sent, done_taken}
use Rattle.line_workers.proofs.workers.try_order.Goals as goal

pub returns-in-Send-clause-done : goal.returns-in-Send-clause-done
returns-in-Send-clause-done c =
    subst (λ (o : Order). OnOk c.send_once.result
    (HasDone (o ∷ []) c.args.post.now c.send_once.new.post)) (sym c.in-Send.is)
    (on_ok_done c.send_once.result _ _
    (done_sent c.args.post.now c.send_once.new.post c.in-Send.to _) c.send_once.ensures.ok)

pub returns-in-Receive-clause-done : goal.returns-in-Receive-clause-done
returns-in-Receive-clause-done c =
    subst (λ (o : Order). OnOk c.receive_once.result
    (HasDone (o ∷ []) c.args.post.now c.receive_once.new.post)) (sym c.in-Receive.is)
    (on_ok_done c.receive_once.result _ _ (done_taken c.args.post.now c.receive_once.new.post
    c.in-Receive.from) c.receive_once.ensures.ok)
