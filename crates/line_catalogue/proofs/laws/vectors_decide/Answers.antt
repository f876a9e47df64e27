use Rattle.line_catalogue.proofs.LaneLemmas.{fits-decide}
use Rattle.line_catalogue.proofs.laws.vectors_decide.Goals as goal

pub returns : goal.returns
returns c = fits-decide
