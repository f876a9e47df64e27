-- The law, by its lemmas.
use Rattle.line_laws.proofs.CompletionLemmas.{checked_from, closed_parts, closed_from}
use Rattle.line_laws.proofs.CompletionLemmas.{completed_closed, completed_from, checked_last}
use Rattle.line_laws.proofs.CompletionLemmas.{checked_lacks, checked_idle, completed_idle}
use Rattle.line_laws.proofs.RoundLines.{checked_has}
use Rattle.line_laws.proofs.rounds.rounds_complete.Goals as goal

pub returns-clause-checked : goal.returns-clause-checked
returns-clause-checked c =
    λ history r. (λ t q h. checked_has history r q t h, checked_from history r)

pub returns-clause-closed : goal.returns-clause-closed
returns-clause-closed c =
    λ history r q. (closed_parts history r q, λ parts. closed_from history r q parts.0 parts.1)

pub returns-clause-completed : goal.returns-clause-completed
returns-clause-completed c =
    λ history r. (λ t q h. completed_closed history r q t h, completed_from history r)

pub returns-clause-idle_checked : goal.returns-clause-idle_checked
returns-clause-idle_checked c = checked_idle

pub returns-clause-last : goal.returns-clause-last
returns-clause-last c = checked_last

pub returns-clause-lacking : goal.returns-clause-lacking
returns-clause-lacking c = checked_lacks

pub returns-clause-idle_completed : goal.returns-clause-idle_completed
returns-clause-idle_completed c = completed_idle
