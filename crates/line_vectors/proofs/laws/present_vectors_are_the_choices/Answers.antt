use Rattle.line_vectors.proofs.ReachLemmas.{vector-now}
use Rattle.line_vectors.proofs.laws.present_vectors_are_the_choices.Goals as goal

pub returns : goal.returns
returns c = vector-now
