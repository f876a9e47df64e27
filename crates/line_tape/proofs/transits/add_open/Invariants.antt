use Rattle.std.proofs.Common.{◌≡◌, ◌++◌}
use Rattle.line_tape.proofs.ReceivedLemmas.{open_first}
use Rattle.line_tape.proofs.transits.add_open.Given as goal

abbrev pub invariant-loop-number : goal.invariant-loop-number
invariant-loop-number l =
    l.messages.items ≡ l.fn.messages.items ++ open_first l.history.processes l.line l.p l.number
