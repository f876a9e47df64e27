-- The law, by its lemmas.
use Rattle.line_laws.proofs.ForcedLemmas.{colour_less, forced_open, forced_new, forced_next}
use Rattle.line_laws.proofs.ForcedLemmas.{receipt_waits}
use Rattle.line_laws.proofs.colours.forced_checks_suffice.Goals as goal

pub returns-clause-open : goal.returns-clause-open
returns-clause-open c = λ history q message r greater. forced_open history q message greater r

pub returns-clause-new : goal.returns-clause-new
returns-clause-new c = forced_new

pub returns-clause-next : goal.returns-clause-next
returns-clause-next c =
    λ history q message state greater. forced_next history q message greater state

pub returns-clause-received : goal.returns-clause-received
returns-clause-received c = receipt_waits

pub returns-clause-less : goal.returns-clause-less
returns-clause-less c = colour_less
