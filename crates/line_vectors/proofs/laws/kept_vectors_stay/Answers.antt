use Rattle.line_vectors.proofs.ReachLemmas.{vector-kept}
use Rattle.line_vectors.proofs.laws.kept_vectors_stay.Goals as goal

pub returns : goal.returns
returns c = vector-kept
