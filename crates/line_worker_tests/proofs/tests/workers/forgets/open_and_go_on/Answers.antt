use Rattle.line_posts.proofs.SameLemmas.{generation_kept, lined_kept}
use Rattle.line_worker_tests.proofs.tests.workers.forgets.open_and_go_on.Goals as goal

pub returns-clause-generation : goal.returns-clause-generation
returns-clause-generation c = generation_kept c.in_ok-collector.posts.items
    c.both_go_on.new.posts.items c.in_ok-both_go_on.ensures c.in_ok-collector.ensures.generation

pub returns-clause-lines : goal.returns-clause-lines
returns-clause-lines c = c.in_ok-take.ensures c.both_go_on.new.posts.items
    (lined_kept c.in_ok-collector.collector c.in_ok-collector.posts.items
    c.both_go_on.new.posts.items c.in_ok-both_go_on.ensures c.in_ok-collector.ensures.lines)
