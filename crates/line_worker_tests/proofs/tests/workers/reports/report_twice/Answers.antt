use Rattle.line_posts.proofs.SameLemmas.{same_then}
use Rattle.line_worker_tests.proofs.tests.workers.reports.report_twice.Goals as goal

pub returns : goal.returns
returns c = same_then _ _ _ c.send-sent.ensures.same (same_then _ _ _ c.report-reported.ensures.same
    (same_then _ _ _ c.check-checked.ensures.same c.report-last_report.ensures.same))
