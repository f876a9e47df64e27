-- The events looked at are the process's front.
use Rattle.std.proofs.Common.{◌≡◌, List, ap, ◌∙◌, subst}
use Rattle.line_tape.specs.declared.events.Event.{Event}
use Rattle.line_tape.specs.Front.{front}
use Rattle.line_tape.specs.History.{tape_at}
use Rattle.line_tape.specs.Line.{IsFoundAmong, events_before}
use Rattle.line_tape.proofs.lines.orphan_on_tape.Goals as goal

pub returns : goal.returns
returns c =
    let front : c.front.result
    ≡ events_before c.args.history.now.processes c.args.line.now c.args.q = c.front.ensures ∙ ap
    (λ (t : List Event). front t c.at.result) c.tape.ensures.events ∙ ap
    (front (tape_at c.args.history.now.processes c.args.q)) c.at.ensures in
    subst (λ (xs : List Event). IsFoundAmong c.args.history.now.processes c.args.line.now xs
    c.orphan_among.result) front c.orphan_among.ensures
