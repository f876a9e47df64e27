-- The receipt of a message that its sender's tape holds agrees.
use Rattle.line_moves.proofs.AgreeLemmas.{AgreesNext-receive}
use Rattle.line_moves.proofs.moves.add_receipt.Goals as goal

pub append_receipt-requires-clause-agrees : goal.append_receipt-requires-clause-agrees
append_receipt-requires-clause-agrees c =
    AgreesNext-receive c.args.catalogue.now.processes c.history-history.ensures.agrees c.args.to
    c.requires.to c.args.message.now c.requires.held
