use Rattle.std.proofs.Common.{ℕ, [], List, All, slice_index_or, refl, sym, ◌∙◌, arith}
use Rattle.std.proofs.lemmas.Bool.{false≢true}
use borrow.Author.Count.{below_more}
use Rattle.line_tape.specs.History.{Process}
use Rattle.line_check.specs.Shape.{IsCheckOf}
use Rattle.line_check.proofs.ShapeLemmas.{damaged-checks, checks-damaged}
use Rattle.line_check.proofs.shapes.are_marks_of.Goals as goal

pub returns-then-not-are_checks_of : goal.returns-then-not-are_checks_of
returns-then-not-are_checks_of c = (
  λ h. absurd (false≢true h),
  λ each. absurd (false≢true (sym c.if-not-are_checks_of.true
      ∙ c.are_checks_of.ensures.1
      (checks-damaged c.args.history.now.processes c.args.marks.now each c.loop-p.p))),
)

pub loop-p-preserved : goal.loop-p-preserved
loop-p-preserved c =
    let history : List Process = c.args.history.now.processes in
    below_more (λ (q : ℕ). All (IsCheckOf history q) (slice_index_or c.args.marks.now.damaged q []))
    c.loop-p.p
    c.loop-p.invariant (c.are_checks_of.ensures.0 c.if-not-are_checks_of.false)

pub returns : goal.returns
returns c = (
  λ h. damaged-checks c.args.history.now.processes c.args.marks.now
      (λ q within. c.loop-p.invariant q (omega arith)),
  λ h. refl,
)
