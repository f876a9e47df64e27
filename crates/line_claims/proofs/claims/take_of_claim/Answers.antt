use Rattle.std.proofs.Common.{length}
use Rattle.line_claims.proofs.claims.take_of_claim.Goals as goal

pub returns-in-Line-clause-exact : goal.returns-in-Line-clause-exact
returns-in-Line-clause-exact c =
    rw c.in-Line.is (c.take_line.ensures.exact (length c.args.claim.now.marks.damaged))
