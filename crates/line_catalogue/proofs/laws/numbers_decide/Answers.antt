use Rattle.line_catalogue.proofs.LaneLemmas.{numbers-decide}
use Rattle.line_catalogue.proofs.laws.numbers_decide.Goals as goal

pub returns : goal.returns
returns c = numbers-decide
