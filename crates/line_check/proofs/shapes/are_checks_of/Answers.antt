-- Where the latest mark is on a check that there is, so is each other one.
use Rattle.std.proofs.Common.{ℕ, List}
use Rattle.line_tape.specs.History.{Process}
use Rattle.line_tape.specs.Views.{damaged_at}
use Rattle.line_check.specs.Shape.{IsCheckOf}
use Rattle.line_check.proofs.ShapeLemmas.{All-found, checks-before}
use Rattle.line_check.proofs.shapes.are_checks_of.Goals as goal

pub returns-in-Some : goal.returns-in-Some
returns-in-Some c =
    let history : List Process = c.args.history.now.processes in
    let p : ℕ = c.args.p in
    let check : ℕ = c.in-Some.check in
    let damaged : List ℕ = damaged_at c.args.marks.now p in (
      λ h. checks-before history p check damaged
          (c.is_check_of.ensures.0 h) c.in-Some.ensures.latest,
      λ all. c.is_check_of.ensures.1
          (All-found (IsCheckOf history p) damaged check all c.in-Some.ensures.marked),
    )
