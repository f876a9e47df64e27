-- What stands above a seat is a receipt.
use Rattle.std.proofs.Common.{◌≡◌, ◌-◌, suc, arith}
use Rattle.line_tape.proofs.receipts.trees.link_at.Goals as goal

pub bounds-receipts-seat : goal.bounds-receipts-seat
bounds-receipts-seat c =
    let some : c.args.seat.above ≡ suc (c.args.seat.above - 1) = omega arith in
    (c.requires.node.each (c.args.seat.above - 1) some).0

pub bounds-receipts-seat-else-seat : goal.bounds-receipts-seat-else-seat
bounds-receipts-seat-else-seat c =
    let some : c.args.seat.above ≡ suc (c.args.seat.above - 1) = omega arith in
    (c.requires.node.each (c.args.seat.above - 1) some).0
