use Rattle.line_posts.proofs.SameLemmas.{generation_kept, lined_kept}
use Rattle.line_worker_tests.proofs.tests.workers.posts.gather_drained.Goals as goal

pub gather_in_order-requires-clause-generation : goal.gather_in_order-requires-clause-generation
gather_in_order-requires-clause-generation c = generation_kept c.in_ok-collector.posts.items
    c.drain.new.posts.items c.in_ok-drain.ensures c.in_ok-collector.ensures.generation

pub gather_in_order-requires-clause-lines : goal.gather_in_order-requires-clause-lines
gather_in_order-requires-clause-lines c = lined_kept c.in_ok-collector.collector
    c.in_ok-collector.posts.items c.drain.new.posts.items c.in_ok-drain.ensures
    c.in_ok-collector.ensures.lines
