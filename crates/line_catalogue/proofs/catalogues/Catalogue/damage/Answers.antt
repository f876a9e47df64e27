-- The mark is on a check that there is, and its row tells of it.
use Rattle.std.proofs.Common.{◌<◌, ◌≤◌, ℕ, List, length, sym, ap, subst, arith}
use Rattle.line_tape.specs.Event.{checks}
use Rattle.line_tape.specs.History.{Process, tape_at}
use Rattle.line_tape.specs.Views.{MarksView, with_mark}
use Rattle.line_catalogue.specs.declared.kept_rows.Row.{Row}
use Rattle.line_catalogue.specs.Kept.{IsCatalogue}
use Rattle.line_catalogue.specs.Views.{CatalogueView}
use Rattle.line_catalogue.proofs.CatalogueLemmas.{IsCatalogue-mark}
use Rattle.line_catalogue.proofs.catalogues.Catalogue.damage.Goals as goal

pub invariant_of-self-2 : goal.invariant_of-self-2
invariant_of-self-2 c =
    let history : List Process = c.self.inside.ledger.processes in
    let marks : MarksView = c.self.inside.marks in
    let rows : List (List Row) = c.self.inside.rows.rows in
    let presents : List (List ℕ) = c.self.inside.rows.presents in
    let within : c.args.p < length history = omega
    (arith, c.requires, ap (λ (v : CatalogueView). length v.processes) c.self.view_is) in
    let there : c.args.check ≤ checks (tape_at history c.args.p) = omega (
      arith,
      c.if-check-len.false,
      c.len.ensures,
      ap (λ (xs : List Row). length xs) c.at.ensures,
      (c.self.invariant.shown c.args.p within).count,
    ) in
    subst (λ (m : MarksView). IsCatalogue history m c.damage.new.self.rows
    c.damage.new.self.presents) (sym c.in_ok-mark.ensures.ok)
    (subst (λ (ys : List (List ℕ)). IsCatalogue history (with_mark marks c.args.p c.args.check)
    c.damage.new.self.rows ys) (sym c.damage.ensures.presents)
    (subst (λ (xs : List (List Row)). IsCatalogue history
    (with_mark marks c.args.p c.args.check) xs presents) (sym c.damage.ensures.rows)
    (IsCatalogue-mark history marks rows presents c.args.p within c.args.check there
    c.self.invariant)))
