use Rattle.line_posts.proofs.SameLemmas.{same_then}
use Rattle.line_two_sums.proofs.sums.keep.Goals as goal

pub returns : goal.returns
returns c = same_then _ _ _ c.check.ensures.same c.report.ensures.same
