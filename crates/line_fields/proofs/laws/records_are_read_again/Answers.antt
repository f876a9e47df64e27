use Rattle.line_fields.proofs.ReadAgain.{written_is_input, written_is_read}
use Rattle.line_fields.proofs.laws.records_are_read_again.Goals as goal

pub returns-clause-plain : goal.returns-clause-plain
returns-clause-plain c records written = written_is_input records written

pub returns-clause-same : goal.returns-clause-same
returns-clause-same c records written = written_is_read records written
