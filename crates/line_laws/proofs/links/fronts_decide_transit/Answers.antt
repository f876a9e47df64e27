-- The law, by its two lemmas.
use Rattle.line_laws.proofs.RoundTransit.{transit_by_fronts, round_transit}
use Rattle.line_laws.proofs.links.fronts_decide_transit.Goals as goal

pub returns-clause-fronts : goal.returns-clause-fronts
returns-clause-fronts c = transit_by_fronts

pub returns-clause-check : goal.returns-clause-check
returns-clause-check c = λ history at state r line h none now others p q lp lq. round_transit
    history at state r line h none now others p q lp lq
