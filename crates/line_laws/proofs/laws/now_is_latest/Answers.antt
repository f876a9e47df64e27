use Rattle.line_laws.proofs.LatestLemmas.{latest_stays}
use Rattle.line_laws.proofs.OrderLemmas.{ordered_fit}
use Rattle.line_laws.proofs.laws.now_is_latest.Goals as goal

pub returns-clause-ordered : goal.returns-clause-ordered
returns-clause-ordered c = λ history marks failed line fit nobody free. latest_stays history marks
    failed line (ordered_fit history fit) nobody free

pub returns-clause-unordered : goal.returns-clause-unordered
returns-clause-unordered c = latest_stays
