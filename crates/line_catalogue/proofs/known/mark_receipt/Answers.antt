-- What is received before the line is received.
use Rattle.std.proofs.Common.{List, sym, ap, ◌∙◌, subst}
use Rattle.std.specs.List.{Contains}
use Rattle.line_tape.specs.declared.events.Event.{Event}
use Rattle.line_tape.specs.Line.{events_before}
use Rattle.line_tape.specs.Shown.{event_of_ref}
use Rattle.line_tape.proofs.TransitLemmas.{has_received-iff}
use Rattle.line_catalogue.proofs.known.mark_receipt.Goals as goal

pub returns-in-Recv-clause-known : goal.returns-in-Recv-clause-known
returns-in-Recv-clause-known c = λ line among known.
    let before : List Event = events_before c.args.history.now.processes line c.args.q in
    c.mark_send.ensures.known line ((has_received-iff before c.in-Recv.message).1
    (subst (Contains before) (ap event_of_ref c.in-Recv.is) among)) known

pub returns-in-Recv-clause-noted : goal.returns-in-Recv-clause-noted
returns-in-Recv-clause-noted c = λ k m is sent number within. c.mark_send.ensures.noted k m
    (sym (ap event_of_ref c.in-Recv.is) ∙ is) sent number within
