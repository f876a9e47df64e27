-- The last one is a receipt.
use Rattle.std.proofs.Common.{◌≡◌, ◌-◌, suc, arith}
use Rattle.line_tape.proofs.receipts.chains.is_ahead.Goals as goal

pub bounds-receipts-last : goal.bounds-receipts-last
bounds-receipts-last c =
    let some : c.args.last ≡ suc (c.args.last - 1) = omega arith in
    (c.requires.last.back.each (c.args.last - 1) some).0
