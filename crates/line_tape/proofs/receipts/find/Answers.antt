-- In the chain, or in the tree, or nowhere.
use Rattle.std.proofs.Common.{◌≡◌, ◌<◌, List, length, sym, ◌∙◌, arith}
use Rattle.line_tape.specs.declared.receipts.chains.Receipt.{Receipt}
use Rattle.line_tape.specs.Noted.{IsAhead, IsAside, name_of_receipt, name_at}
use Rattle.line_tape.proofs.FirstLemmas.{ahead_first, aside_first, none_received}
use Rattle.line_tape.proofs.receipts.find.Goals as goal

pub returns-then-link-ne0-clause-found : goal.returns-then-link-ne0-clause-found
returns-then-link-ne0-clause-found c = λ i is.
    let rs : List Receipt = c.args.receipts.now in
    let there : (i < length rs) × IsAhead rs i ×
    (name_at rs i ≡ name_of_receipt c.args.wanted.now) = c.find_ahead-link.ensures.found i is in
    (there.0, there.2, λ j l. ahead_first rs i j _ there.1 there.2 l)

pub returns-clause-found : goal.returns-clause-found
returns-clause-found c = λ i is.
    let rs : List Receipt = c.args.receipts.now in
    let there : (i < length rs)
    × IsAside rs i =
    (c.requires.tree.nodes c.seat_of-seat.result.above c.seat_of-seat.result.far
    c.seat_of-seat.ensures.node).each i (sym c.link_at.ensures ∙ is) in (
      there.0,
      c.seat_of-seat.ensures.named i
          (sym c.link_at.ensures ∙ is),
      λ j l. aside_first rs i j _ there.1
          (λ a. c.find_ahead-link.ensures.none j c.if-link-ne0.false (omega (arith, l, there.0)) a)
          (c.seat_of-seat.ensures.named i (sym c.link_at.ensures ∙ is)) l,
    )

pub returns-clause-none : goal.returns-clause-none
returns-clause-none c = λ is. none_received c.args.receipts.now c.args.root
    c.seat_of-seat.result.above c.seat_of-seat.result.far
    (name_of_receipt c.args.wanted.now) c.seat_of-seat.ensures (sym c.link_at.ensures ∙ is)
    (λ i l a. c.find_ahead-link.ensures.none i c.if-link-ne0.false l a)
