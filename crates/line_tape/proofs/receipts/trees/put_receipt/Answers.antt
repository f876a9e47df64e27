-- One of two links of a receipt, or the root, is written.
use Rattle.std.proofs.Common.{◌≤◌, true, false, length, refl, arith}
use Rattle.line_tape.proofs.NotedLemmas.{put_seat}
use Rattle.line_tape.proofs.SeatLemmas.{node_le}
use Rattle.line_tape.proofs.receipts.trees.put_receipt.Goals as goal

pub index_mut-requires : goal.index_mut-requires
index_mut-requires c =
    let l : c.args.seat.above ≤ length c.args.receipts.now.items = node_le c.args.receipts.now.items
    c.args.seat.above c.requires.node in
    omega (arith, c.args.receipts.now.ok.0)

pub index_mut-requires-else-seat : goal.index_mut-requires-else-seat
index_mut-requires-else-seat c =
    let l : c.args.seat.above ≤ length c.args.receipts.now.items = node_le c.args.receipts.now.items
    c.args.seat.above c.requires.node in
    omega (arith, c.args.receipts.now.ok.0)

pub returns-then-seat-clause-put : goal.returns-then-seat-clause-put
returns-then-seat-clause-put c =
    put_seat c.args.receipts.now.items _ c.args.seat.above c.args.link true c.args.seat.far
    c.index_mut.result.now _ c.if-seat.true c.if-seat-eq0.false
    (node_le c.args.receipts.now.items c.args.seat.above c.requires.node)
    c.index_mut.ensures.value refl refl refl

pub returns-else-seat-clause-put : goal.returns-else-seat-clause-put
returns-else-seat-clause-put c =
    put_seat c.args.receipts.now.items _ c.args.seat.above c.args.link false c.args.seat.far
    c.index_mut-else-seat.result.now _ c.if-seat.false c.if-seat-eq0.false
    (node_le c.args.receipts.now.items c.args.seat.above c.requires.node)
    c.index_mut-else-seat.ensures.value refl refl refl
