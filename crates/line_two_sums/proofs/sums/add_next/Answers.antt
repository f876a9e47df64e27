use Rattle.line_posts.proofs.SameLemmas.{same_then}
use Rattle.line_two_sums.proofs.sums.add_next.Goals as goal

pub returns : goal.returns
returns c = same_then _ _ _ c.receive.ensures.same c.keep.ensures
