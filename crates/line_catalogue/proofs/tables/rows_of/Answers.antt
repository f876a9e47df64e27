-- One check more is told of, up to all of them.
use Rattle.std.proofs.Common.{◌<◌, ◌≤◌, ◌+◌, ℕ, List, ap, sym, subst, ◌∙◌, arith}
use Rattle.line_tape.specs.declared.events.Event.{Event}
use Rattle.line_tape.specs.Event.{checks}
use Rattle.line_tape.specs.Views.{damaged_at}
use Rattle.line_catalogue.specs.Kept.{RowsView}
use Rattle.line_catalogue.proofs.DamageLemmas.{AreTold, AreTold-all, AreTold-damaged}
use Rattle.line_catalogue.proofs.DamageLemmas.{AreTold-none, AreTold-sound}
use Rattle.line_catalogue.proofs.tables.rows_of.Goals as goal
use Rattle.line_catalogue.proofs.tables.rows_of.Goals.{then-has, else-has}

pub loop-check-init : goal.loop-check-init
loop-check-init c = record {
  rows = AreTold-none c.args.n c.args.tape.now.events (damaged_at c.args.marks.now c.args.p)
      c.in_ok-process.process.rows c.in_ok-process.ensures.rows;
  present = c.in_ok-process.ensures.present;
}

pub loop-check-preserved : goal.loop-check-preserved
loop-check-preserved c =
    let tape : List Event = c.args.tape.now.events in
    let damaged : List ℕ = damaged_at c.args.marks.now c.args.p in
    let there : c.loop-check.check ≤ checks tape =
    omega (arith, c.loop-check-test.true, c.checks-check-end.ensures.value) in
    elim c.if-has.branch [
      | then-has w ↦ record {
        rows = subst (AreTold c.args.n tape damaged (c.loop-check.check + 1))
            (sym (ap (λ (v : RowsView). v.rows) w.process-is ∙ w.damage.ensures.rows))
            (AreTold-damaged c.args.n tape damaged c.loop-check.check c.loop-check.process.rows
            there (sym c.has.ensures ∙ w.if-has.true) c.loop-check.invariant.rows);
        present = ap (λ (v : RowsView). v.present) w.process-is ∙ w.damage.ensures.present
            ∙ c.loop-check.invariant.present;
      }
      | else-has w ↦ record {
        rows = subst (AreTold c.args.n tape damaged (c.loop-check.check + 1))
            (sym (ap (λ (v : RowsView). v.rows) w.process-is))
            (AreTold-sound c.args.n tape damaged c.loop-check.check c.loop-check.process.rows
            (sym c.has.ensures ∙ w.if-has.false) c.loop-check.invariant.rows);
        present = ap (λ (v : RowsView). v.present) w.process-is ∙ c.loop-check.invariant.present;
      }
    ]

pub returns : goal.returns
returns c =
    let tape : List Event = c.args.tape.now.events in
    let past : checks tape < c.loop-check.check =
    omega (arith, c.loop-check-test.false, c.checks-check-end.ensures.value) in
    record {
      rows = AreTold-all c.args.n tape (damaged_at c.args.marks.now c.args.p) c.loop-check.check
          c.loop-check.process.rows past c.loop-check.invariant.rows;
      present = c.loop-check.invariant.present;
    }
