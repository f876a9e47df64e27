use Rattle.line_claims.proofs.PlaceLemmas.{nothing_taken}
use Rattle.line_claims.proofs.readers.CheckReader.new.Goals as goal

pub returns : goal.returns
returns c = λ text. nothing_taken 1 text
