-- No block, and no links.
use Rattle.line_tape.proofs.EndLemmas.{no_blocks}
use Rattle.line_tape.proofs.receipts.ends.LastLinks.new.Goals as goal

pub invariant_of-result : goal.invariant_of-result
invariant_of-result c = no_blocks 16 _ c.new.ensures.items
