-- The links back are to receipts before it.
use Rattle.std.proofs.Common.{◌<◌, ◌-◌, ℕ, length, arith}
use Rattle.line_tape.specs.Noted.{receipt_at}
use Rattle.line_tape.proofs.receipts.chains.back_from.Goals as goal

pub bounds-receipts-at : goal.bounds-receipts-at
bounds-receipts-at c =
    let i : ℕ = c.args.link - 1 in
    let within : i < length c.args.receipts.now = omega arith in
    let far : ℕ = (receipt_at c.args.receipts.now i).far in
    let l : far - 1 < i =
    ((c.requires.chained.far i within c.requires.ahead).each (far - 1) (omega arith)).0 in
    omega arith
