use Rattle.std.proofs.Common.{arith, subst}
use Rattle.line_vectors.specs.Blocks.{HasGreaterOn}
use Rattle.line_vectors.proofs.LaneLemmas.{greater_on_whole}
use Rattle.line_vectors.proofs.kernels.max_into.Goals as goal

pub returns : goal.returns
returns c = greater_on_whole c.args.a.now c.loop-i.a c.args.b.now c.requires (subst
    (λ n. HasGreaterOn c.args.a.now c.loop-i.a c.args.b.now 0 n) (omega arith) c.loop-i.invariant)
