-- The last receipt is that of its sender, or in the tree, or in no link.
use Rattle.std.proofs.Common.{◌≡◌, ◌-◌, ℕ, suc, List, length, vec_len, ◌∙◌, sym, arith}
use Rattle.line_tape.specs.declared.receipts.chains.Receipt.{Receipt}
use Rattle.line_tape.proofs.NotedLemmas.{unlinked_again, unlinked_ahead, unlinked_aside}
use Rattle.line_tape.proofs.EndLemmas.{has_block}
use Rattle.line_tape.proofs.receipts.unlink_last.Goals as goal

pub returns-then-at-link-clause-noted : goal.returns-then-at-link-clause-noted
returns-then-at-link-clause-noted c =
    let items : List Receipt = c.args.receipts.now.items in
    let n : ℕ = vec_len c.args.receipts.now - 1 in
    let k : ℕ = c.len-link.result - 1 in
    let long : length items ≡ suc n = omega (arith, c.requires.some, c.args.receipts.now.ok.0) in
    let here : k ≡ n = omega (arith, c.len-link.ensures) in
    let is : c.len-link.result ≡ suc n = omega (arith, c.len-link.ensures, c.requires.some) in
    unlinked_ahead c.as_slice-before.result.now items c.args.last.now c.args.root.now n k
    c.len-link.result c.as_slice-before.ensures.value c.requires.noted long here is
    c.set.new.self c.set.ensures.put (sym c.at.ensures ∙ c.if-at-link.true)

pub returns-then-link_at-link-clause-noted : goal.returns-then-link_at-link-clause-noted
returns-then-link_at-link-clause-noted c =
    let items : List Receipt = c.args.receipts.now.items in
    let n : ℕ = vec_len c.args.receipts.now - 1 in
    let k : ℕ = c.len-link.result - 1 in
    let long : length items ≡ suc n = omega (arith, c.requires.some, c.args.receipts.now.ok.0) in
    let here : k ≡ n = omega (arith, c.len-link.ensures) in
    let is : c.len-link.result ≡ suc n = omega (arith, c.len-link.ensures, c.requires.some) in
    unlinked_again c.as_slice-before.result.now items c.args.last.now c.args.root.now n k
    c.len-link.result c.as_slice-before.ensures.value c.requires.noted long here is
    c.seat_of-seat.result.above c.seat_of-seat.result.far (λ e. c.if-at-link.false (c.at.ensures
    ∙ e)) c.seat_of-seat.ensures (λ e. c.if-link_at-link.true (c.link_at.ensures ∙ e))

pub returns-clause-noted : goal.returns-clause-noted
returns-clause-noted c =
    let items : List Receipt = c.args.receipts.now.items in
    let n : ℕ = vec_len c.args.receipts.now - 1 in
    let k : ℕ = c.len-link.result - 1 in
    let long : length items ≡ suc n = omega (arith, c.requires.some, c.args.receipts.now.ok.0) in
    let here : k ≡ n = omega (arith, c.len-link.ensures) in
    let is : c.len-link.result ≡ suc n = omega (arith, c.len-link.ensures, c.requires.some) in
    let whole : length c.put_receipt.new.receipts.items ≡ suc n = omega
    (arith, c.put_receipt.ensures.len, c.put_receipt.new.receipts.ok.0, c.requires.some) in
    unlinked_aside c.as_slice-before.result.now items c.args.last.now c.args.root.now n k
    c.len-link.result c.as_slice-before.ensures.value c.requires.noted long here is
    c.put_receipt.new.receipts.items c.put_receipt.new.root c.seat_of-seat.result.above
    c.seat_of-seat.result.far whole
    (λ e. c.if-at-link.false (c.at.ensures ∙ e)) c.seat_of-seat.ensures
    (sym c.link_at.ensures ∙ c.if-link_at-link.false) c.put_receipt.ensures.put

pub set-requires : goal.set-requires
set-requires c = has_block c.args.last.now _ (λ none. absurd
    (omega (arith, c.at.ensures, c.if-at-link.true, none, c.len-link.ensures, c.requires.some)))
