use Rattle.line_fields.proofs.RoundLemmas.{num_decimal}
use Rattle.line_fields.proofs.laws.numbers_are_read_again.Goals as goal

pub returns : goal.returns
returns c least most n low high fits = num_decimal least most n low high fits
