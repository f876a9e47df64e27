use Rattle.line_posts.proofs.SameLemmas.{same_then}
use Rattle.line_worker_tests.proofs.tests.workers.steps.check_and_send.Goals as goal

pub returns-clause-post : goal.returns-clause-post
returns-clause-post c =
    same_then _ _ _ c.check.ensures.same (same_then _ _ _ c.report.ensures.same c.send.ensures.same)
