use Rattle.line_posts.proofs.SameLemmas.{same_then}
use Rattle.line_worker_tests.proofs.tests.workers.forgets.send_one_and_report.Goals as goal

pub returns : goal.returns
returns c = same_then _ _ _ c.send.ensures.same c.report.ensures.same
