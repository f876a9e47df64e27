use Rattle.line_posts.proofs.SameLemmas.{generation_kept, lined_kept}
use Rattle.line_worker_tests.proofs.tests.workers.restart_steps.go_on.Goals as goal

pub gather_all-requires-clause-generation : goal.gather_all-requires-clause-generation
gather_all-requires-clause-generation c = generation_kept c.in_ok-collector.posts.items
    c.send_and_receive.new.posts.items c.in_ok-exchanged.ensures
    c.in_ok-collector.ensures.generation

pub gather_all-requires-clause-lines : goal.gather_all-requires-clause-lines
gather_all-requires-clause-lines c = lined_kept c.in_ok-collector.collector
    c.in_ok-collector.posts.items c.send_and_receive.new.posts.items c.in_ok-exchanged.ensures
    c.in_ok-collector.ensures.lines
