-- Processes that have done nothing agree, and nothing is marked.
use Rattle.std.proofs.Common.{◌≡◌, [], ℕ, List, length, sym, ap, ◌∙◌, subst}
use Rattle.std.specs.Prelude.{replicate}
use Rattle.std.proofs.lemmas.List.{length-replicate}
use Rattle.line_tape.specs.History.{Process, fresh}
use Rattle.line_tape.specs.Views.{HistoryView, MarksView}
use Rattle.line_catalogue.specs.Agreement.{Agrees}
use Rattle.line_catalogue.specs.Kept.{IsCatalogue}
use Rattle.line_catalogue.proofs.AgreementLemmas.{Agrees-fresh}
use Rattle.line_catalogue.proofs.CatalogueLemmas.{AreOnChecks-none}
use Rattle.line_catalogue.proofs.catalogues.Catalogue.new.Goals as goal

pub invariant_of-result : goal.invariant_of-result
invariant_of-result c =
    let n : ℕ = c.args.n in
    let history : List Process = c.in_ok-history.history.processes in
    let marks : MarksView = c.in_ok-marks.marks in
    let none : history ≡ replicate n fresh = c.in_ok-history.ensures.ok in
    let unmarked : marks.damaged
    ≡ replicate n [] = ap (λ (m : MarksView). m.damaged)
    c.in_ok-marks.ensures in
    let made : IsCatalogue history marks c.in_ok-rows.rows.rows
    c.in_ok-rows.rows.presents = record {
      agrees = subst Agrees (sym none) (Agrees-fresh n);
      marked = AreOnChecks-none history marks n c.in_ok-marks.ensures;
      marks_count = ap (λ (xs : List (List ℕ)). length xs) unmarked ∙ length-replicate n [] ∙ sym
          (ap (λ (xs : List Process). length xs) none ∙ length-replicate n fresh);
      rows_count = c.in_ok-rows.ensures.count;
      presents_count = c.in_ok-rows.ensures.presents;
      shown = c.in_ok-rows.ensures.shown;
      heard = c.in_ok-rows.ensures.heard;
    } in
    subst (λ (v : HistoryView). IsCatalogue v.processes marks c.in_ok-rows.rows.rows
    c.in_ok-rows.rows.presents) (sym c.in_ok-ledger.ensures) made
