use Rattle.std.proofs.Common.{◌∙◌, sym, subst, arith, length, ◌≤◌, ◌+◌, ℕ, w64}
use Rattle.std.specs.Int.{trailing_zeros}
use Rattle.line_vectors.specs.Lanes.{IsFirstOver}
use Rattle.line_vectors.proofs.LaneLemmas.{none_in_block, first_in_block}
use Rattle.line_vectors.proofs.kernels.first_over_from.Goals as goal

pub returns-then-bits-ne0 : goal.returns-then-bits-ne0
returns-then-bits-ne0 c =
    let a = c.args.a.now in
    let b = c.args.b.now in
    let at = c.loop-at.at in
    let is = c.over_bits-bits.ensures in
    let la : at + 8 ≤ length a = omega (arith, c.loop-at-test.true) in
    let lb : at + 8 ≤ length b = omega (arith, la, c.requires.lanes) in
    let P : ℕ → Type 0 = λ m. IsFirstOver a b (at + trailing_zeros w64 m) in
    subst P (sym is)
    (first_in_block a b at la lb (λ e. c.if-bits-ne0.true (is ∙ e)) c.loop-at.invariant.1).1

pub loop-at-preserved : goal.loop-at-preserved
loop-at-preserved c =
    let la : c.loop-at.at + 8 ≤ length c.args.a.now = omega (arith, c.loop-at-test.true) in (
      la,
      none_in_block c.args.a.now c.args.b.now c.loop-at.at la
          (omega (arith, la, c.requires.lanes))
          (sym c.over_bits-bits.ensures ∙ c.if-bits-ne0.false) c.loop-at.invariant.1,
    )
