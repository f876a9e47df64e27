use Rattle.std.proofs.Common.{ltb, sym, subst, w32, ◌+◌}
use Rattle.std.proofs.lemmas.Simd.{tops_compared}
use Rattle.std.specs.Simd.Lanes.{sel_l, chunk, put_chunk}
use Rattle.line_vectors.specs.Blocks.{HasGreaterOn}
use Rattle.line_vectors.proofs.LaneLemmas.{greater_on_block, greater_sel}
use Rattle.line_vectors.proofs.blocks.max_block.Goals as goal

pub returns : goal.returns
returns c =
    let a = c.args.a.now in
    let b = c.args.b.now in
    let x = chunk c.args.at 8 a in
    let y = chunk c.args.at 8 b in
    subst (λ ms. HasGreaterOn a (put_chunk c.args.at a (sel_l ms y x)) b c.args.at (c.args.at + 8))
    (sym (tops_compared w32 ltb x y))
    (subst (λ ys. HasGreaterOn a (put_chunk c.args.at a ys) b c.args.at (c.args.at + 8))
    (sym (greater_sel x y))
    (greater_on_block c.args.at a b c.requires.first c.requires.second))
