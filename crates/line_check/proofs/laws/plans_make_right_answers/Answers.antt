use Rattle.std.proofs.Common.{refl}
use Rattle.line_check.proofs.FollowedLemmas.{names_due}
use Rattle.line_check.proofs.laws.plans_make_right_answers.Goals as goal

pub returns-clause-right : goal.returns-clause-right
returns-clause-right c history marks failed line certificate shape chain =
    record { shape = shape; chain = chain; starts_are = refl; replays_are = refl }

pub returns-clause-names : goal.returns-clause-names
returns-clause-names c history line = names_due history line
