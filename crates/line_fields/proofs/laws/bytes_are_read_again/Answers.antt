use Rattle.line_fields.proofs.RoundLemmas.{hex_hex_text}
use Rattle.line_fields.proofs.laws.bytes_are_read_again.Goals as goal

pub returns : goal.returns
returns c bytes fit = hex_hex_text bytes fit
