use Rattle.std.proofs.Common.{arith}
use Rattle.line_claims.proofs.ReadingLemmas.{tape_none, tapes_whole}
use Rattle.line_claims.proofs.histories.close_tapes.Goals as goal

pub returns-then-tapes-n : goal.returns-then-tapes-n
returns-then-tapes-n c =
    rw c.fault_at.ensures (tape_none _ _ _ _ (rw c.n.ensures.value at c.if-tapes-n.true))

pub returns : goal.returns
returns c = tapes_whole _ _ _ _ (omega (arith, c.if-tapes-n.false, c.n.ensures.value))
