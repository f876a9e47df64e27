-- The law, by what stays spent.
use Rattle.line_laws.proofs.SpentLemmas.{next_unspent, sent_spent, spent_event, spent_restarted}
use Rattle.line_laws.proofs.SpentLemmas.{no_later_event, no_later_restarted, no_later_start}
use Rattle.line_laws.proofs.incarnations.names_apart.Goals as goal

pub returns-clause-unspent : goal.returns-clause-unspent
returns-clause-unspent c = next_unspent

pub returns-clause-sent : goal.returns-clause-sent
returns-clause-sent c = sent_spent

pub returns-clause-event : goal.returns-clause-event
returns-clause-event c = spent_event

pub returns-clause-restart : goal.returns-clause-restart
returns-clause-restart c = spent_restarted

pub returns-clause-sends_event : goal.returns-clause-sends_event
returns-clause-sends_event c = no_later_event

pub returns-clause-sends_restart : goal.returns-clause-sends_restart
returns-clause-sends_restart c = no_later_restarted

pub returns-clause-sends_start : goal.returns-clause-sends_start
returns-clause-sends_start c = no_later_start
