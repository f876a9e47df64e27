-- A test that says whether a receipt stands there is the one of the definition.
use Rattle.std.proofs.Common.{◌≡◌, List, ap, ◌∙◌}
use Rattle.line_tape.specs.declared.events.Event.{Event}
use Rattle.line_tape.specs.Front.{front}
use Rattle.line_tape.specs.Line.{events_before}
use Rattle.line_tape.specs.Transit.{has_received}
use Rattle.line_tape.proofs.TransitLemmas.{has_received-is}
use Rattle.line_check.proofs.cursors.is_received.Goals as goal

pub returns : goal.returns
returns c =
    let before : front c.tape.result.now.events c.at.result
    ≡ events_before c.args.history.now.processes c.args.line.now c.args.q =
    cc (c.tape.ensures.events, c.at.ensures) in
    has_received-is
    (front c.tape.result.now.events c.at.result) c.args.message.now c.received_before.result
    c.received_before.ensures ∙ ap
    (λ (es : List Event). has_received es c.args.message.now) before
