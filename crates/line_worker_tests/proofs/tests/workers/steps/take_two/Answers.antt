use Rattle.line_posts.proofs.SameLemmas.{same_then}
use Rattle.line_worker_tests.proofs.tests.workers.steps.take_two.Goals as goal

pub returns : goal.returns
returns c = same_then _ _ _ c.receive-first.ensures.same c.receive-second.ensures.same
