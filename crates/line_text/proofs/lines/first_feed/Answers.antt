use Rattle.line_text.proofs.FeedLemmas.{feed_found, no_feed_found}
use Rattle.line_text.proofs.lines.first_feed.Goals as goal

pub returns-clause-some : goal.returns-clause-some
returns-clause-some c = feed_found _ _ c.memchr.ensures

pub returns-clause-none : goal.returns-clause-none
returns-clause-none c = no_feed_found _ _ c.memchr.ensures
