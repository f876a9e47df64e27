use Rattle.line_fields.proofs.TextLemmas.{length-records_of_text}
use Rattle.line_fields.proofs.records.RecordReader.open.Goals as goal

pub returns-clause-few : goal.returns-clause-few
returns-clause-few c = length-records_of_text c.args.text.now
