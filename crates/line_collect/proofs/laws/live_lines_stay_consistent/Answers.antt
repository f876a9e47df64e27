use Rattle.line_collect.proofs.LiveLemmas.{consistent_after}
use Rattle.line_collect.proofs.laws.live_lines_stay_consistent.Goals as goal

pub returns : goal.returns
returns c old new failed plan these all is answers =
    consistent_after old new failed plan these all is answers
