use Rattle.line_posts.proofs.SameLemmas.{same_posts_then}
use Rattle.line_worker_tests.proofs.tests.workers.restart_steps.send_and_receive.Goals as goal

pub returns : goal.returns
returns c = same_posts_then _ _ _ c.send_one-sent.ensures c.receive_one-received.ensures
