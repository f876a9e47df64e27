use Rattle.line_posts.proofs.SameLemmas.{generation_kept, lined_kept}
use Rattle.line_worker_tests.proofs.tests.workers.forgets.open.Goals as goal

pub returns-clause-generation : goal.returns-clause-generation
returns-clause-generation c = generation_kept c.in_ok-collector.posts.items
    c.both_check.new.posts.items c.in_ok-both_check.ensures c.in_ok-collector.ensures.generation.0

pub returns-clause-lines : goal.returns-clause-lines
returns-clause-lines c = c.in_ok-take.ensures c.both_check.new.posts.items
    (lined_kept c.in_ok-collector.collector c.in_ok-collector.posts.items
    c.both_check.new.posts.items c.in_ok-both_check.ensures c.in_ok-collector.ensures.generation.1)
