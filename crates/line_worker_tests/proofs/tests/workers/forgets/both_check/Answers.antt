use Rattle.line_posts.proofs.SameLemmas.{same_posts_then}
use Rattle.line_worker_tests.proofs.tests.workers.forgets.both_check.Goals as goal

pub returns : goal.returns
returns c = same_posts_then _ _ _ c.in_ok-first_reports.ensures
    (same_posts_then _ _ _ c.in_ok-second_receives.ensures c.in_ok-second_reports.ensures)
