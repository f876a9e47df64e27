use Rattle.line_posts.proofs.SameLemmas.{same_posts_then}
use Rattle.line_worker_tests.proofs.tests.workers.round_steps.report_both.Goals as goal

pub returns : goal.returns
returns c = same_posts_then _ _ _ c.report_at-first.ensures c.report_at-second.ensures
