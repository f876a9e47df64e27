use Rattle.line_fields.proofs.CsvLemmas.{records_are}
use Rattle.line_fields.proofs.laws.csv_reads_the_same_records.Goals as goal

pub returns : goal.returns
returns c text plain = records_are text plain
