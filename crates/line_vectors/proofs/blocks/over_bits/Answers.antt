use Rattle.line_vectors.proofs.LaneLemmas.{over_bits_are}
use Rattle.line_vectors.proofs.blocks.over_bits.Goals as goal

pub returns : goal.returns
returns c = over_bits_are c.args.at c.args.a.now c.args.b.now c.requires.first c.requires.second
