use Rattle.line_posts.proofs.SameLemmas.{same_posts_then}
use Rattle.line_worker_tests.proofs.tests.workers.forgets.both_go_on.Goals as goal

pub returns : goal.returns
returns c = same_posts_then _ _ _ c.in_ok-first_reports.ensures
    (same_posts_then _ _ _ c.in_ok-first_reports_one.ensures
    (same_posts_then _ _ _ c.in_ok-second_receives.ensures
    (same_posts_then _ _ _ c.in_ok-second_receives-2.ensures c.in_ok-second_reports.ensures)))
