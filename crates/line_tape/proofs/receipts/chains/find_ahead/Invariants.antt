use Rattle.line_tape.specs.Noted.{IsWayBack, name_of_receipt}
use Rattle.line_tape.proofs.receipts.chains.find_ahead.Given as goal

abbrev pub invariant-loop-link : goal.invariant-loop-link
invariant-loop-link l = IsWayBack l.receipts (name_of_receipt l.wanted) l.link

abbrev pub decreases-loop-link : goal.decreases-loop-link
decreases-loop-link l = l.link
