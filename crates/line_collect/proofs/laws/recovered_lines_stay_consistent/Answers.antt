use Rattle.line_collect.proofs.RecoveryLemmas.{stands_recovered}
use Rattle.line_collect.proofs.laws.recovered_lines_stay_consistent.Goals as goal

pub returns : goal.returns
returns c old new failed plan these is answers =
    stands_recovered old new failed plan these is answers
