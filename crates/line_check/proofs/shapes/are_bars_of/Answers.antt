use Rattle.std.proofs.Common.{◌≡◌, ℕ, List, Some, refl, sym, ◌∙◌, arith}
use Rattle.std.proofs.lemmas.Bool.{false≢true}
use borrow.Author.Count.{below_more}
use Rattle.line_tape.specs.History.{Process}
use Rattle.line_tape.specs.Views.{bar_at}
use Rattle.line_check.specs.Shape.{IsCheckOf}
use Rattle.line_check.proofs.ShapeLemmas.{barred-checks}
use Rattle.line_check.proofs.shapes.are_bars_of.Goals as goal

pub returns-then-not-is_bar_of : goal.returns-then-not-is_bar_of
returns-then-not-is_bar_of c = (
  λ h. absurd (false≢true h),
  λ each. absurd
      (false≢true (sym c.if-not-is_bar_of.true ∙ c.is_bar_of.ensures.1 (each c.loop-p.p))),
)

pub loop-p-preserved : goal.loop-p-preserved
loop-p-preserved c =
    let history : List Process = c.args.history.now.processes in
    below_more (λ (q : ℕ). (check : ℕ) → bar_at c.args.marks.now q ≡ Some check
    → IsCheckOf history q check) c.loop-p.p
    c.loop-p.invariant (c.is_bar_of.ensures.0 c.if-not-is_bar_of.false)

pub returns : goal.returns
returns c = (
  λ h. barred-checks c.args.history.now.processes c.args.marks.now
      (λ q within. c.loop-p.invariant q (omega arith)),
  λ h. refl,
)
