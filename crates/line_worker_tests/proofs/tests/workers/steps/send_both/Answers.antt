use Rattle.line_posts.proofs.SameLemmas.{same_then}
use Rattle.line_worker_tests.proofs.tests.workers.steps.send_both.Goals as goal

pub returns : goal.returns
returns c = same_then _ _ _ c.send-first.ensures.same c.send-second.ensures.same
