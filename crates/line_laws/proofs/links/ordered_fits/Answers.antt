-- The law, by its lemma.
use Rattle.line_laws.proofs.OrderLemmas.{ordered_fit}
use Rattle.line_laws.proofs.links.ordered_fits.Goals as goal

pub returns : goal.returns
returns c = ordered_fit
