use Rattle.line_tape.proofs.ReceivedLemmas.{IsClearing}
use Rattle.line_tape.proofs.flags.ReceivedFlags.clear.Given as goal

abbrev pub invariant-loop-p : goal.invariant-loop-p
invariant-loop-p l = IsClearing l.fn.self l.self-inside.senders.items l.p
