use Rattle.line_vectors.proofs.ReachLemmas.{reach-recv}
use Rattle.line_vectors.proofs.laws.receipts_note.Goals as goal

pub returns : goal.returns
returns c = reach-recv
