use Rattle.line_worker_tests.proofs.TakingLemmas.{lined_let_go}
use Rattle.line_worker_tests.proofs.tests.workers.forgets.forget_if.Goals as goal

pub returns : goal.returns
returns c = lined_let_go c.forget.result _ _ c.forget.ensures.done
