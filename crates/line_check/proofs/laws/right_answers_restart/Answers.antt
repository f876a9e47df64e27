use Rattle.line_check.proofs.FollowedLemmas.{leaves_a_restart}
use Rattle.line_check.proofs.laws.right_answers_restart.Goals as goal

pub returns : goal.returns
returns c history marks failed answer right = leaves_a_restart history marks failed answer right
