use Rattle.line_catalogue.proofs.LaneLemmas.{beyond-names}
use Rattle.line_catalogue.proofs.laws.lanes_name_orphans.Goals as goal

pub returns : goal.returns
returns c = beyond-names
