-- The event looked at takes something from the link, or nothing.
use Rattle.std.proofs.Common.{◌∙◌, Some, None, sym, arith}
use Rattle.line_tape.specs.Shown.{event_of_ref}
use Rattle.line_world.proofs.WalkLemmas.{received_past, received_step}
use Rattle.line_world.proofs.idle.next_received.Goals as goal

pub loop-i-preserved : goal.loop-i-preserved
loop-i-preserved c =
    c.loop-i.invariant
    ∙ received_step c.args.p c.loop-i.i c.args.events.now
    (event_of_ref c.at.result) None c.at.ensures (sym c.in-None.is ∙ c.item_received.ensures)

pub returns-in-Some-clause-left : goal.returns-in-Some-clause-left
returns-in-Some-clause-left c =
    c.loop-i.invariant
    ∙ received_step c.args.p c.loop-i.i c.args.events.now (event_of_ref c.at.result)
    (Some c.in-Some.item) c.at.ensures (sym c.in-Some.is ∙ c.item_received.ensures)

pub returns-clause-left : goal.returns-clause-left
returns-clause-left c =
    c.loop-i.invariant
    ∙ received_past c.args.p c.loop-i.i c.len.result c.args.events.now
    (omega (arith, c.loop-i-test.false, c.len-i-end.ensures)) (omega (arith, c.len.ensures))
