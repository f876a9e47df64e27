use Rattle.line_posts.proofs.SameLemmas.{same_posts_then}
use Rattle.line_worker_tests.proofs.tests.workers.steps.send_two_and_check.Goals as goal

pub returns : goal.returns
returns c = same_posts_then _ _ _ c.in_ok-sent.ensures c.in_ok-checked.ensures
