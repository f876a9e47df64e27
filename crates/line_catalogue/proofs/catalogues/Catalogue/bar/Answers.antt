-- The bar is on a check that there is.
use Rattle.std.proofs.Common.{◌≡◌, ◌<◌, ◌≤◌, ℕ, List, length, sym, ap, subst, arith}
use Rattle.line_tape.specs.Event.{checks}
use Rattle.line_tape.specs.History.{Process, tape_at}
use Rattle.std.specs.Prelude.{Result, Ok, Err, OnOk, OnErr}
use Rattle.line_tape.specs.declared.bars.BarError.{BarError}
use Rattle.line_tape.specs.Views.{MarksView, with_bar}
use Rattle.line_catalogue.specs.declared.kept_rows.Row.{Row}
use Rattle.line_catalogue.specs.Kept.{IsCatalogue}
use Rattle.line_catalogue.specs.Views.{CatalogueView}
use Rattle.line_catalogue.proofs.CatalogueLemmas.{IsCatalogue-bar}
use Rattle.line_catalogue.proofs.catalogues.Catalogue.bar.Goals as goal

pub invariant_of-self : goal.invariant_of-self
invariant_of-self c =
    let history : List Process = c.self.inside.ledger.processes in
    let marks : MarksView = c.self.inside.marks in
    let rows : List (List Row) = c.self.inside.rows.rows in
    let presents : List (List ℕ) = c.self.inside.rows.presents in
    let within : c.args.p < length history = omega
    (arith, c.requires, ap (λ (v : CatalogueView). length v.processes) c.self.view_is) in
    let there : c.args.check ≤ checks (tape_at history c.args.p) = omega (
      arith,
      c.if-len-check.false,
      c.len.ensures,
      ap (λ (xs : List Row). length xs) c.at.ensures,
      (c.self.invariant.shown c.args.p within).count,
    ) in
    let kept : MarksView → Type 0 = λ m. IsCatalogue history m rows presents in
    elim c.bar.result
    as (λ (r : Result Unit BarError). OnOk r (c.bar.new.self ≡ with_bar marks c.args.p c.args.check)
    → OnErr r (c.bar.new.self ≡ marks) → kept c.bar.new.self) [
      | Ok u ↦ (λ done refused. subst kept (sym done) (IsCatalogue-bar history marks rows presents
          c.args.p within c.args.check there c.self.invariant))
      | Err e ↦ (λ done refused. subst kept (sym refused) c.self.invariant)
    ] c.bar.ensures.ok c.bar.ensures.err
