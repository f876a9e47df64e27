use Rattle.line_posts.proofs.SameLemmas.{same_then}
use Rattle.line_worker_tests.proofs.tests.workers.round_steps.begin_and_receive.Goals as goal

pub returns : goal.returns
returns c = same_then _ _ _ c.begin-begun.ensures.same c.receive-received.ensures.same
