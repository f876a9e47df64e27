use Rattle.std.proofs.Common.{◌<◌, arith, length}
use Rattle.line_vectors.proofs.LaneLemmas.{count_more, count_yes, count_no}
use Rattle.line_vectors.proofs.kernels.count_over.Goals as goal
use Rattle.line_vectors.proofs.kernels.count_over.Goals.{then-a-i, else-a-i}

pub loop-at-preserved : goal.loop-at-preserved
loop-at-preserved c =
    let more = count_more c.args.a.now c.args.b.now c.loop-at.at in
    let is = c.over_bits.ensures in
    let inv = c.loop-at.invariant in (
      omega (arith, c.loop-at-test.true, inv.0),
      rw is (omega (arith, inv.1, more.1)),
      rw is
          (omega (arith, inv.2, more.0)),
    )

pub loop-i-preserved : goal.loop-i-preserved
loop-i-preserved c =
    let a = c.args.a.now in
    let b = c.args.b.now in
    let i = c.loop-i.i in
    let inv = c.loop-i.invariant in
    let la : i < length a = omega arith in
    let lb : i < length b = omega (arith, c.requires) in
    elim c.if-a-i.branch [
      | then-a-i w ↦ let h = count_yes a b i la lb (omega (arith, w.if-a-i.true)) in
          (omega (arith, w.total-is, inv.0), omega (arith, w.total-is, inv.1, h))
      | else-a-i w ↦ let h = count_no a b i la lb (omega (arith, w.if-a-i.false)) in
          (omega (arith, w.total-is, inv.0), omega (arith, w.total-is, inv.1, h))
    ]
