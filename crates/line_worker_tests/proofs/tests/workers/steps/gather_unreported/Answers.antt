use Rattle.line_posts.proofs.SameLemmas.{generation_kept, lined_last}
use Rattle.line_worker_tests.proofs.tests.workers.steps.gather_unreported.Goals as goal

pub gather_without_first-requires-clause-generation :
    goal.gather_without_first-requires-clause-generation
gather_without_first-requires-clause-generation c = generation_kept c.in_ok-collector.posts.items
    c.pass_unreported.new.posts.items c.in_ok-taken.ensures.posts
    c.in_ok-collector.ensures.generation.0

pub gather_without_first-requires-clause-lines : goal.gather_without_first-requires-clause-lines
gather_without_first-requires-clause-lines c = lined_last c.in_ok-collector.collector
    c.pass_unreported.new.collector c.in_ok-collector.posts.items c.pass_unreported.new.posts.items
    c.in_ok-taken.ensures.collector c.in_ok-taken.ensures.posts
    c.in_ok-collector.ensures.generation.1
