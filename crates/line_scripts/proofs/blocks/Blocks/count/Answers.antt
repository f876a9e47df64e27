use Rattle.std.proofs.Common.{ap, arith, length}
use Rattle.line_scripts.proofs.BlockLemmas.{length_in}
use Rattle.line_scripts.proofs.blocks.Blocks.count.Goals as goal

pub returns-clause-count : goal.returns-clause-count
returns-clause-count c =
    let full = c.self.inside.full.ok in
    let kept = c.self.inside.last.kept.ok in
    omega (
      arith,
      c.len.ensures,
      c.len-2.ensures,
      ap length c.self.view_is,
      length_in
          c.self.inside.full.items c.self.inside.last c.self.invariant,
    )
