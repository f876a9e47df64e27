use Rattle.std.proofs.Common.{◌≡◌, ◌++◌, List}
use Rattle.line_names.specs.declared.messages.MsgName.{MsgName}
use Rattle.line_catalogue.specs.Left.{open_first}
use Rattle.line_catalogue.proofs.senders.add_since.Given as goal

abbrev pub invariant-loop-number : goal.invariant-loop-number
invariant-loop-number l = (before : List MsgName)
    → l.fn.messages.items ≡ before ++ open_first l.history.processes l.line l.sender.p l.sender.end
    → l.messages.items ≡ before ++ open_first l.history.processes l.line l.sender.p l.number
