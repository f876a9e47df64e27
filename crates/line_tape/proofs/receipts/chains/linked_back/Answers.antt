-- The links back of the last one, and of the one further back.
use Rattle.std.proofs.Common.{◌≡◌, ◌<◌, ◌-◌, ℕ, suc, List, length, arith, ◌∙◌}
use Rattle.line_tape.specs.declared.receipts.chains.Receipt.{Receipt}
use Rattle.line_tape.specs.Noted.{IsAhead, name_at, receipt_at}
use Rattle.line_tape.proofs.AheadLemmas.{back_wide, from_of}
use Rattle.line_tape.proofs.receipts.chains.linked_back.Goals as goal

pub bounds-receipts-last : goal.bounds-receipts-last
bounds-receipts-last c =
    let some : c.args.last ≡ suc (c.args.last - 1) = omega arith in
    (c.requires.last.back.each (c.args.last - 1) some).0

pub bounds-receipts-before : goal.bounds-receipts-before
bounds-receipts-before c =
    let rs : List Receipt = c.args.receipts.now in
    let k : ℕ = c.args.last - 1 in
    let some : c.args.last ≡ suc k = omega arith in
    let here : (k < length rs) × IsAhead rs k
    × (from_of (name_at rs k) ≡ c.args.receipt.from) = c.requires.last.back.each k some in
    let low : k < length rs = here.0 in
    let far : ℕ = (receipt_at rs k).far in
    let further : far ≡ suc (far - 1) = omega arith in
    let l : far - 1 < k = ((c.requires.chained.far k low here.1).each (far - 1) further).0 in
    omega arith

pub returns-clause-far : goal.returns-clause-far
returns-clause-far c =
    let rs : List Receipt = c.args.receipts.now in
    let k : ℕ = c.args.last - 1 in
    let some : c.args.last ≡ suc k = omega arith in
    let here : (k < length rs) × IsAhead rs k
    × (from_of (name_at rs k) ≡ c.args.receipt.from) = c.requires.last.back.each k some in
    let low : k < length rs = here.0 in
    let far : ℕ = (receipt_at rs k).far in
    let further : far ≡ suc (far - 1) = omega arith in
    let there : (far - 1 < k) × IsAhead rs (far - 1) × (from_of (name_at rs (far - 1))
    ≡ from_of (name_at rs k)) = (c.requires.chained.far k low here.1).each (far - 1) further in
    let l : far - 1 < k = there.0 in
    back_wide rs (far - 1) (length rs) (from_of (name_at rs (far - 1))) c.args.receipt.from
    (receipt_at rs (far - 1)).far (omega arith) (there.2 ∙ here.2)
    (c.requires.chained.far (far - 1) (omega arith) there.1)
