use Rattle.std.proofs.Common.{refl}
use Rattle.line_words.proofs.jobs.drill_of.Goals as goal

pub returns-clause-some : goal.returns-clause-some
returns-clause-some c =
    (refl, (c.in_ok-workers.ensures _).0 refl, (c.in_ok-rounds.ensures _).0 refl)
