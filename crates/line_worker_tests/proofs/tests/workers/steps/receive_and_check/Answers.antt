use Rattle.line_posts.proofs.SameLemmas.{same_then}
use Rattle.line_worker_tests.proofs.tests.workers.steps.receive_and_check.Goals as goal

pub returns : goal.returns
returns c = same_then _ _ _ c.receive.ensures.same c.check.ensures.same
