use Rattle.line_tape.specs.Received.{seen_below, AreTold}
use Rattle.line_tape.proofs.flags.ReceivedFlags.mark.Given as goal

abbrev pub invariant-loop-receiver : goal.invariant-loop-receiver
invariant-loop-receiver l = AreTold l.history.processes l.line
    (seen_below l.history.processes l.line l.receiver) l.self-inside.senders.items
