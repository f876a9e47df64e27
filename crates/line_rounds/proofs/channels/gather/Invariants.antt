use Rattle.std.proofs.Common.{take}
use Rattle.line_rounds.specs.Inboxes.{AreByAddressee}
use Rattle.line_rounds.proofs.channels.gather.Given as goal

abbrev pub invariant-loop-message : goal.invariant-loop-message
invariant-loop-message l = AreByAddressee l.history.processes (take l.message-index l.messages)
    l.rows.items
