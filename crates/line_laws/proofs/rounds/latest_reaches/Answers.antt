-- The law, by its lemma.
use Rattle.line_laws.proofs.SnapshotLemmas.{latest_reached}
use Rattle.line_laws.proofs.rounds.latest_reaches.Goals as goal

pub returns : goal.returns
returns c = latest_reached
