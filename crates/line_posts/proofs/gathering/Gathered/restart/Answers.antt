use Rattle.line_posts.proofs.FleetLemmas.{opened_lined}
use Rattle.line_posts.proofs.gathering.Gathered.restart.Goals as goal

pub returns-clause-generation : goal.returns-clause-generation
returns-clause-generation c =
    opened_lined _ _ _ _ _ _ _ _ _ c.open_next-collector.ensures.collector
    c.open_next-collector.ensures.posts
