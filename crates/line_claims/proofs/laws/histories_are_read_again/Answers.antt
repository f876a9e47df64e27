use Rattle.line_claims.proofs.MemoryLemmas.{records_apart}
use Rattle.line_claims.proofs.WrittenLemmas.{one_history, text_again}
use Rattle.line_claims.proofs.laws.histories_are_read_again.Goals as goal

pub returns-clause-same : goal.returns-clause-same
returns-clause-same c version floors history known told fit room =
    text_again version floors history known told fit room

pub returns-clause-records : goal.returns-clause-records
returns-clause-records c version later floors others history other fit good same =
    records_apart version later floors others history other fit good same

pub returns-clause-apart : goal.returns-clause-apart
returns-clause-apart c version later floors others history other known also told heard fit good same
    =
    one_history version later floors others history other known also told heard fit good same
