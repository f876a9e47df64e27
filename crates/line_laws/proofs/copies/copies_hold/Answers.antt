-- The law, by what stays so.
use Rattle.line_laws.proofs.CopyLemmas.{unordered_start, unordered_event, unordered_restarted}
use Rattle.line_laws.proofs.CopyLemmas.{copy_addressed}
use Rattle.line_laws.proofs.copies.copies_hold.Goals as goal

pub returns-clause-start : goal.returns-clause-start
returns-clause-start c = unordered_start

pub returns-clause-event : goal.returns-clause-event
returns-clause-event c = unordered_event

pub returns-clause-restart : goal.returns-clause-restart
returns-clause-restart c = unordered_restarted

pub returns-clause-addressed : goal.returns-clause-addressed
returns-clause-addressed c = copy_addressed
