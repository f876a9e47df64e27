use Rattle.line_vectors.proofs.ReachLemmas.{reach-is}
use Rattle.line_vectors.proofs.laws.lanes_are_greatest.Goals as goal

pub returns : goal.returns
returns c = reach-is
