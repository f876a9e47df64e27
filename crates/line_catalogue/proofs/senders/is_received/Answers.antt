-- What the tape's index tells.
use Rattle.std.proofs.Common.{◌≡◌, List, ap, ◌∙◌}
use Rattle.line_tape.specs.declared.events.Event.{Event}
use Rattle.line_tape.specs.Front.{front}
use Rattle.line_tape.specs.History.{tape_at}
use Rattle.line_tape.specs.Line.{events_before}
use Rattle.line_tape.specs.Transit.{has_received}
use Rattle.line_tape.proofs.TransitLemmas.{has_received-is}
use Rattle.line_catalogue.proofs.senders.is_received.Goals as goal

pub returns-then-get-n : goal.returns-then-get-n
returns-then-get-n c =
    let events : List Event = front c.tape.result.now.events c.at.result in
    let before : events
    ≡ events_before c.args.history.now.processes c.args.line.now c.args.q = ap
    (λ (t : List Event). front t c.at.result) c.tape.ensures.events ∙ ap
    (front (tape_at c.args.history.now.processes c.args.q)) c.at.ensures in
    has_received-is events c.args.message.now c.received_before.result c.received_before.ensures ∙
    ap (λ (es : List Event). has_received es c.args.message.now) before
