use Rattle.line_posts.proofs.SameLemmas.{generation_kept, lined_kept}
use Rattle.line_worker_tests.proofs.tests.workers.reports.open_and_tell.Goals as goal

pub returns-clause-generation : goal.returns-clause-generation
returns-clause-generation c = generation_kept c.in_ok-collector.posts.items
    c.fill_line.new.posts.items c.in_ok-told.ensures c.in_ok-collector.ensures.generation.0

pub returns-clause-lines : goal.returns-clause-lines
returns-clause-lines c = lined_kept c.in_ok-collector.collector c.in_ok-collector.posts.items
    c.fill_line.new.posts.items c.in_ok-told.ensures c.in_ok-collector.ensures.generation.1
