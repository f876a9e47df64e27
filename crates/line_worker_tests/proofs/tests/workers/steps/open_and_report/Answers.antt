use Rattle.line_posts.proofs.ReportLemmas.{more_then}
use Rattle.line_posts.proofs.SameLemmas.{generation_kept, lined_last, same_posts_then}
use Rattle.line_worker_tests.proofs.tests.workers.steps.open_and_report.Goals as goal

pub returns-clause-generation : goal.returns-clause-generation
returns-clause-generation c = generation_kept c.in_ok-collector.posts.items
    c.report_and_plan-2.new.posts.items (same_posts_then _ _ _ c.report_and_plan.ensures.posts
    c.report_and_plan-2.ensures.posts) c.in_ok-collector.ensures.generation

pub returns-clause-lines : goal.returns-clause-lines
returns-clause-lines c = lined_last c.in_ok-collector.collector c.report_and_plan-2.new.collector
    c.in_ok-collector.posts.items c.report_and_plan-2.new.posts.items
    (more_then _ _ _ c.report_and_plan.ensures.collector c.report_and_plan-2.ensures.collector)
    (same_posts_then _ _ _ c.report_and_plan.ensures.posts c.report_and_plan-2.ensures.posts)
    c.in_ok-collector.ensures.lines
