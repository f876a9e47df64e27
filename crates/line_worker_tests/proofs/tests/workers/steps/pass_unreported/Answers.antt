use Rattle.line_posts.proofs.SameLemmas.{same_posts_then}
use Rattle.line_worker_tests.proofs.tests.workers.steps.pass_unreported.Goals as goal

pub returns-clause-posts : goal.returns-clause-posts
returns-clause-posts c =
    same_posts_then _ _ _ c.in_ok-taken.ensures.posts c.in_ok-receive_unreported.ensures
