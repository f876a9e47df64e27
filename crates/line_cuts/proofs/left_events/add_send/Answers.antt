use Rattle.std.proofs.Common.{◌<◌, ◌≤◌, refl, arith}
use Rattle.std.proofs.lemmas.Result.{on_ok_weaker}
use Rattle.line_tape.specs.declared.events.Event.TheVariants.{Send}
use Rattle.line_cuts.specs.Cuts.{lost_sends}
use Rattle.line_cuts.proofs.AddedLemmas.{adds_none, adds_one, send_gone, send_left}
use Rattle.line_cuts.proofs.left_events.add_send.Goals as goal

pub returns-then-number-lost : goal.returns-then-number-lost
returns-then-number-lost c =
    let gone : c.args.place.now.number < lost_sends c.args.floor.now c.args.place.now.process =
    omega (arith, c.sends-lost.ensures) in
    adds_none _ _ _ _ _ _ _ refl
    (send_gone c.args.floor.now c.args.place.now.process c.args.place.now.number
    c.args.place.now.skip c.args.to c.args.inc c.args.body.now gone)

pub returns : goal.returns
returns c =
    let kept : lost_sends c.args.floor.now c.args.place.now.process ≤ c.args.place.now.number =
    omega (arith, c.sends-lost.ensures) in
    on_ok_weaker c.push_send.result (λ same.
    adds_one _ _ _ _ _ _ _ (Send c.args.to c.args.inc c.args.body.now) c.requires.process same
    (send_left c.args.floor.now c.args.place.now.process c.args.place.now.number
    c.args.place.now.skip c.args.to c.args.inc c.args.body.now kept)) c.push_send.ensures
