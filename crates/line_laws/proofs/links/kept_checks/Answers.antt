-- The law, by its lemma.
use Rattle.line_laws.proofs.KeptLemmas.{kept_transit}
use Rattle.line_laws.proofs.links.kept_checks.Goals as goal

pub returns : goal.returns
returns c = kept_transit
