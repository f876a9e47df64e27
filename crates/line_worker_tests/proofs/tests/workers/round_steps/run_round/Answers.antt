use Rattle.line_posts.proofs.SameLemmas.{same_posts_then}
use Rattle.line_worker_tests.proofs.tests.workers.round_steps.run_round.Goals as goal

pub returns : goal.returns
returns c = same_posts_then _ _ _ c.in_ok-begun.ensures
    (same_posts_then _ _ _ c.in_ok-other.ensures c.in_ok-closed.ensures)
