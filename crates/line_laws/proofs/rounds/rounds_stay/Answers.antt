-- The law, by its two lemmas.
use Rattle.line_laws.proofs.GrowthLemmas.{checked_event, completed_event}
use Rattle.line_laws.proofs.rounds.rounds_stay.Goals as goal

pub returns-clause-checked : goal.returns-clause-checked
returns-clause-checked c = checked_event

pub returns-clause-completed : goal.returns-clause-completed
returns-clause-completed c = completed_event
