use Rattle.line_fields.proofs.TextLemmas.{length-records_of_text}
use Rattle.line_fields.proofs.laws.records_are_few.Goals as goal

pub returns : goal.returns
returns c text = length-records_of_text text
