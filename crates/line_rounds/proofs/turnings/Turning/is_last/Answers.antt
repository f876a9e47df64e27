-- Each other process that is passed has its check.
use Rattle.std.proofs.Common.{◌≡◌, ℕ, List, length, refl, ap, ◌∙◌, arith}
use Rattle.line_rounds.specs.Turning.{TurningView}
use Rattle.line_rounds.proofs.TurningLemmas.{others_have}
use Rattle.line_rounds.proofs.turnings.Turning.is_last.Goals as goal

pub returns : goal.returns
returns c = λ history is.
    let many : length c.deref-check-items.result.now
    ≡ length c.args.self.now.checks = ap
    (λ (xs : List ℕ). length xs) c.deref-check-items.ensures.value ∙ ap
    (λ (v : TurningView). length v.checks) c.self.view_is in (
      λ done. others_have history c.args.self.now c.args.p is
          (λ q within apart. c.loop-q.invariant q (omega (arith, within, many)) apart),
      λ all. refl,
    )
