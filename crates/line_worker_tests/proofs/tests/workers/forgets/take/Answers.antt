use Rattle.line_worker_tests.proofs.TakingLemmas.{lined_taken}
use Rattle.line_worker_tests.proofs.tests.workers.forgets.take.Goals as goal

pub returns : goal.returns
returns c = λ posts lined. c.in_ok-forget_if.ensures posts
    (lined_taken _ _ c.take.ensures.more posts lined)
