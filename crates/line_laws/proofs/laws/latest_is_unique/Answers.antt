use Rattle.line_laws.proofs.LatestLemmas.{latest_same}
use Rattle.line_laws.proofs.laws.latest_is_unique.Goals as goal

pub returns : goal.returns
returns c = latest_same
