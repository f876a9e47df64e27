-- No receipts, and no last one of any sender.
use Rattle.line_tape.proofs.FirstLemmas.{noted_none}
use Rattle.line_tape.proofs.receipts.Receipts.new.Goals as goal

pub invariant_of-result : goal.invariant_of-result
invariant_of-result c = noted_none _ _ c.new.ensures.items c.new-2.ensures
