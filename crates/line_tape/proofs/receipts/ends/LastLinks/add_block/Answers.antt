-- The sixteen has no block yet, so there are fifteen at most, and one more is in the room.
use Rattle.std.proofs.Common.{◌≡◌, ◌<◌, ◌+◌, ◌/◌, ℕ, suc, List, length, get_or, set, vec_len, ap}
use Rattle.std.proofs.Common.{subst, sym, ◌∙◌, arith, rules}
use Rattle.line_tape.specs.Ends.{AreBlocks, EndsView, link_of_sender, block_count}
use Rattle.line_tape.proofs.EndLemmas.{blocks_more, ends_more, taken_lt}
use Rattle.line_tape.proofs.receipts.ends.LastLinks.add_block.Goals as goal

pub overflow_cast-block : goal.overflow_cast-block
overflow_cast-block c =
    let bs : List ℕ = c.self.inside.blocks in
    let sixteen : length bs ≡ 16 = search rules in
    let low : c.args.sender / 16 < length bs = omega (arith, c.ranges.sender.fits) in
    let none : get_or bs (c.args.sender / 16) 0 ≡ 0 = c.if-self-group-ne0.false in
    let few : block_count bs < length bs = taken_lt bs (c.args.sender / 16) low none in
    let long : length c.self.inside.links.items
    ≡ vec_len c.self.inside.links = omega (arith, c.self.inside.links.ok.0) in
    omega (arith, c.self.invariant.full, c.len.ensures)

pub overflow_add-block : goal.overflow_add-block
overflow_add-block c =
    let bs : List ℕ = c.self.inside.blocks in
    let sixteen : length bs ≡ 16 = search rules in
    let low : c.args.sender / 16 < length bs = omega (arith, c.ranges.sender.fits) in
    let none : get_or bs (c.args.sender / 16) 0 ≡ 0 = c.if-self-group-ne0.false in
    let few : block_count bs < length bs = taken_lt bs (c.args.sender / 16) low none in
    let long : length c.self.inside.links.items
    ≡ vec_len c.self.inside.links = omega (arith, c.self.inside.links.ok.0) in
    omega (arith, c.self.invariant.full, c.len.ensures)

pub lengthen-requires : goal.lengthen-requires
lengthen-requires c =
    let bs : List ℕ = c.self.inside.blocks in
    let sixteen : length bs ≡ 16 = search rules in
    let low : c.args.sender / 16 < length bs = omega (arith, c.ranges.sender.fits) in
    let none : get_or bs (c.args.sender / 16) 0 ≡ 0 = c.if-self-group-ne0.false in
    let few : block_count bs < length bs = taken_lt bs (c.args.sender / 16) low none in
    let long : length c.self.inside.links.items
    ≡ vec_len c.self.inside.links = omega (arith, c.self.inside.links.ok.0) in
    omega (arith, c.self.invariant.full, c.requires, ap (λ (e : EndsView). e.room) c.self.view_is)

pub invariant_of-self : goal.invariant_of-self
invariant_of-self c =
    let bs : List ℕ = c.self.inside.blocks in
    let sixteen : length bs ≡ 16 = search rules in
    let low : c.args.sender / 16 < length bs = omega (arith, c.ranges.sender.fits) in
    let none : get_or bs (c.args.sender / 16) 0 ≡ 0 = c.if-self-group-ne0.false in
    let few : block_count bs < length bs = taken_lt bs (c.args.sender / 16) low none in
    let long : length c.self.inside.links.items
    ≡ vec_len c.self.inside.links = omega (arith, c.self.inside.links.ok.0) in
    let is : c.len.result / 16 + 1
    ≡ suc (block_count bs) = omega (arith, c.self.invariant.full, c.len.ensures) in
    subst (λ k. AreBlocks (set bs (c.args.sender / 16) k) c.lengthen.new.links.items) (sym is)
    (blocks_more bs c.self.inside.links.items c.lengthen.new.links.items
    (c.args.sender / 16) c.self.invariant low none
    (omega (arith, c.lengthen.ensures.len, c.lengthen.new.links.ok.0)))

pub returns-clause-same : goal.returns-clause-same
returns-clause-same c =
    let bs : List ℕ = c.self.inside.blocks in
    let sixteen : length bs ≡ 16 = search rules in
    let low : c.args.sender / 16 < length bs = omega (arith, c.ranges.sender.fits) in
    let none : get_or bs (c.args.sender / 16) 0 ≡ 0 = c.if-self-group-ne0.false in
    let few : block_count bs < length bs = taken_lt bs (c.args.sender / 16) low none in
    let long : length c.self.inside.links.items
    ≡ vec_len c.self.inside.links = omega (arith, c.self.inside.links.ok.0) in
    let is : c.len.result / 16 + 1
    ≡ suc (block_count bs) = omega (arith, c.self.invariant.full, c.len.ensures) in
    λ other. ends_more (record { blocks = bs; links = c.self.inside.links.items; room = 0 })
    (record {
      blocks = set bs (c.args.sender / 16)
          (c.len.result / 16 + 1);
      links = c.lengthen.new.links.items;
      room = 0;
    })
    (c.args.sender / 16) c.self.invariant low none
    (ap (set bs (c.args.sender / 16)) is) c.lengthen.ensures.same other
    ∙ ap (λ (e : EndsView). link_of_sender e other) c.self.view_is
