-- The receipt is ahead, or of a message that has one in the tree, or put there.
use Rattle.std.proofs.Common.{◌≡◌, ◌<◌, ◌+◌, ◌++◌, ◌∷◌, [], suc, List, length, ap, ◌∙◌, sym, arith}
use Rattle.std.proofs.Common.{rules}
use Rattle.std.proofs.lemmas.List.{length-map, length_push}
use Rattle.line_tape.specs.declared.receipts.chains.Receipt.{Receipt}
use Rattle.line_tape.specs.declared.limits.TheConstants.{MOST_EVENTS}
use Rattle.line_tape.specs.Ends.{IsEndPut}
use Rattle.line_tape.specs.Noted.{ReceiptsView, name_of_receipt}
use Rattle.line_tape.proofs.NotedLemmas.{added_again, added_ahead, added_aside, pushed_node}
use Rattle.line_tape.proofs.receipts.Receipts.note.Goals as goal

pub invariant_of-self : goal.invariant_of-self
invariant_of-self c =
    let items : List Receipt = c.self.inside.receipts.items in
    let few : length items < MOST_EVENTS = omega (
      arith,
      c.requires.few,
      ap
          (λ (r : ReceiptsView). length r.names) c.self.view_is,
      length-map items name_of_receipt,
    ) in
    let pushed : c.push_reserved.new.self.items
    ≡ items ++ c.linked_back-linked.result ∷ [] = search rules in
    let link : c.len.result + 1
    ≡ length items + 1 = omega (arith, c.len.ensures, c.self.inside.receipts.ok.0) in
    let put : IsEndPut c.self.inside.last c.set.new.self c.of-receipt.result.from
    (c.len.result + 1) = record {
      there = c.set.ensures.put.there;
      elsewhere = λ q ne. c.set.ensures.put.elsewhere q ne ∙ c.add_block.ensures.same q;
    } in
    added_ahead c.as_slice-before.result.now items c.self.inside.last c.self.inside.root
    c.as_slice-before.ensures.value c.self.invariant few c.push_reserved.new.self.items
    c.set.new.self
    (c.len.result + 1) c.of-receipt.result c.linked_back-linked.result pushed link
    c.linked_back-linked.ensures.same c.of-receipt.ensures.sender put
    (c.is_ahead.ensures.yes c.if-is_ahead.true)
    (c.linked_back-linked.ensures.near ∙ c.at-end.ensures) c.linked_back-linked.ensures.far

pub put_receipt-requires : goal.put_receipt-requires
put_receipt-requires c =
    let items : List Receipt = c.self.inside.receipts.items in
    let few : length items < MOST_EVENTS = omega (
      arith,
      c.requires.few,
      ap
          (λ (r : ReceiptsView). length r.names) c.self.view_is,
      length-map items name_of_receipt,
    ) in
    let pushed : c.push_reserved-2.new.self.items
    ≡ items ++ c.of-receipt.result ∷ [] = search rules in
    record {
      node = pushed_node c.as_slice-before.result.now items c.self.inside.last
          c.self.inside.root c.as_slice-before.ensures.value c.self.invariant few
          c.push_reserved-2.new.self.items c.of-receipt.result c.seat_of-seat.result.above pushed
          c.seat_of-seat.ensures.node;
    }

pub invariant_of-self-then-known-ne0 : goal.invariant_of-self-then-known-ne0
invariant_of-self-then-known-ne0 c =
    let items : List Receipt = c.self.inside.receipts.items in
    let few : length items < MOST_EVENTS = omega (
      arith,
      c.requires.few,
      ap
          (λ (r : ReceiptsView). length r.names) c.self.view_is,
      length-map items name_of_receipt,
    ) in
    let pushed : c.push_reserved-2.new.self.items
    ≡ items ++ c.of-receipt.result ∷ [] = search rules in
    added_again c.as_slice-before.result.now items c.self.inside.last c.self.inside.root
    c.as_slice-before.ensures.value c.self.invariant few c.push_reserved-2.new.self.items
    c.of-receipt.result pushed c.of-receipt.ensures.sender c.of-receipt.ensures.links.0
    (c.is_ahead.ensures.no c.if-is_ahead.false) c.seat_of-seat.result.above
    c.seat_of-seat.result.far c.seat_of-seat.ensures
    (λ none. c.if-known-ne0.true (c.link_at-known.ensures ∙ none))

pub invariant_of-self-2 : goal.invariant_of-self-2
invariant_of-self-2 c =
    let items : List Receipt = c.self.inside.receipts.items in
    let few : length items < MOST_EVENTS = omega (
      arith,
      c.requires.few,
      ap
          (λ (r : ReceiptsView). length r.names) c.self.view_is,
      length-map items name_of_receipt,
    ) in
    let pushed : c.push_reserved-2.new.self.items
    ≡ items ++ c.of-receipt.result ∷ [] = search rules in
    let link : c.len.result + 1
    ≡ length items + 1 = omega (arith, c.len.ensures, c.self.inside.receipts.ok.0) in
    let more : length c.push_reserved-2.new.self.items ≡ length items + 1 = ap (λ (xs : List
    Receipt). length xs) pushed ∙ omega (arith, length_push items c.of-receipt.result) in
    let long : length c.put_receipt.new.receipts.items
    ≡ suc (length items) = omega (
      arith,
      c.put_receipt.ensures.len,
      c.put_receipt.new.receipts.ok.0,
      c.push_reserved-2.new.self.ok.0,
    ) in
    added_aside c.as_slice-before.result.now items c.self.inside.last c.self.inside.root
    c.as_slice-before.ensures.value c.self.invariant few c.push_reserved-2.new.self.items
    c.put_receipt.new.receipts.items c.put_receipt.new.root c.seat_of-seat.result.above
    (c.len.result + 1) c.seat_of-seat.result.far c.of-receipt.result pushed link long
    c.of-receipt.ensures.sender c.of-receipt.ensures.links.0 c.of-receipt.ensures.links.1
    (c.is_ahead.ensures.no c.if-is_ahead.false)
    (sym c.link_at-known.ensures ∙ c.if-known-ne0.false) c.seat_of-seat.ensures
    c.put_receipt.ensures.put
