use Rattle.line_posts.proofs.SameLemmas.{generation_kept, lined_kept, same_posts_then}
use Rattle.line_worker_tests.proofs.tests.workers.rounds.report_round.Goals as goal

pub gather_reported-requires-clause-generation : goal.gather_reported-requires-clause-generation
gather_reported-requires-clause-generation c = generation_kept c.in_ok-collector.posts.items
    c.report_both-reported.new.posts.items (same_posts_then _ _ _ c.in_ok-run_round.ensures
    c.report_both-reported.ensures) c.in_ok-collector.ensures.generation.0

pub gather_reported-requires-clause-lines : goal.gather_reported-requires-clause-lines
gather_reported-requires-clause-lines c = lined_kept c.in_ok-collector.collector
    c.in_ok-collector.posts.items c.report_both-reported.new.posts.items (same_posts_then _ _ _
    c.in_ok-run_round.ensures c.report_both-reported.ensures) c.in_ok-collector.ensures.generation.1
