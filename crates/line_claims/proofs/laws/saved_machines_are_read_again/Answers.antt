use Rattle.line_claims.proofs.SavedAgainLemmas.{saved_again, saved_text_again}
use Rattle.line_claims.proofs.laws.saved_machines_are_read_again.Goals as goal

pub returns-clause-texts : goal.returns-clause-texts
returns-clause-texts c parts fit = saved_text_again parts fit

pub returns-clause-records : goal.returns-clause-records
returns-clause-records c parts more fit = saved_again parts more fit
