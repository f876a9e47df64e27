use Rattle.std.proofs.Common.{rules}
use Rattle.line_check.specs.Verdict.{not_top, not_received, not_orphan}
use Rattle.line_check.proofs.checker.check_entry.Goals as goal

pub returns-then-ne-clause-fault : goal.returns-then-ne-clause-fault
returns-then-ne-clause-fault c = search (rules, not_top)

pub returns-then-not-received_before-clause-fault :
    goal.returns-then-not-received_before-clause-fault
returns-then-not-received_before-clause-fault c = search (rules, not_received)

pub returns-then-is_sent_before-clause-fault : goal.returns-then-is_sent_before-clause-fault
returns-then-is_sent_before-clause-fault c = search (rules, not_orphan)
