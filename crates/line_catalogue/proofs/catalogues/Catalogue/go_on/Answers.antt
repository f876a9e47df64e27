-- What is left agrees, its marks are on its checks, and the rows and vectors are those of what is
-- left.
use Rattle.std.proofs.Common.{◌≡◌, ℕ, ◌+◌, ◌<◌, List, length, sym, ap, ◌∙◌, subst, arith}
use Rattle.line_names.specs.declared.choices.Choice.{Choice}
use Rattle.line_names.specs.Lines.{choice_at}
use Rattle.line_tape.specs.Event.{checks}
use Rattle.line_tape.specs.History.{Process, tape_at}
use Rattle.line_tape.specs.Line.{IsLine, IsConsistent}
use Rattle.line_tape.specs.Restart.{restarted_history}
use Rattle.line_tape.specs.Views.{HistoryView, MarksView}
use Rattle.line_catalogue.specs.declared.kept_rows.Row.{Row}
use Rattle.line_catalogue.specs.Kept.{rows_at, present_at, IsCatalogue}
use Rattle.line_catalogue.specs.Rows.{AreInStep, WithPlaces, rows_kept, vector_at}
use Rattle.line_catalogue.specs.Views.{CatalogueView}
use Rattle.line_catalogue.proofs.RestartLemmas.{length-restarted, there-restarted, left-restarted}
use Rattle.line_catalogue.proofs.RestartLemmas.{step-restarted, IsCatalogue-restarted}
use Rattle.line_catalogue.proofs.catalogues.Catalogue.go_on.Goals as goal

pub restart-requires-clause-consistent : goal.restart-requires-clause-consistent
restart-requires-clause-consistent c =
    let seen : c.self.inside.ledger.processes
    ≡ c.args.self.now.processes = ap (λ (v : CatalogueView). v.processes) c.self.view_is in
    subst (λ (xs : List Process). IsConsistent xs c.args.line.now) (sym seen) c.requires.consistent

pub restart-requires-3 : goal.restart-requires-3
restart-requires-3 c =
    let history : List Process = c.self.inside.ledger.processes in
    let marks : MarksView = c.self.inside.marks in
    let rows : List (List Row) = c.self.inside.rows.rows in
    let presents : List (List ℕ) = c.self.inside.rows.presents in
    let line : List Choice = c.args.line.now in
    let seen : history
    ≡ c.args.self.now.processes = ap (λ (v : CatalogueView). v.processes) c.self.view_is in
    let is_line : IsLine history line = subst (λ (xs : List Process). IsLine xs line)
    (sym seen) c.requires.line in
    let left : c.history.result.now.processes ≡ restarted_history history line = ap
    (λ (v : HistoryView). v.processes) c.history.ensures ∙ c.restart.ensures.processes in
    let same : length c.history.result.now.processes ≡ length history = ap
    (λ (xs : List Process). length xs) left ∙ length-restarted history line is_line in
    record {
      count = c.self.invariant.rows_count ∙ sym same;
      there = λ p k h at. there-restarted history marks rows presents line c.self.invariant is_line
          p k (omega (arith, h, same)) at;
      left = λ p h. left-restarted history marks rows presents line c.self.invariant is_line p
          (omega (arith, h, same)) ∙ ap (λ (xs : List Process). checks (tape_at xs p) + 1)
          (sym left);
      in_step = λ p h. subst
          (λ (xs : List Process). AreInStep (tape_at xs p)
          (rows_kept (choice_at line p) (rows_at rows p))) (sym left) (step-restarted history marks
          rows presents line c.self.invariant is_line p (omega (arith, h, same)));
    }

pub invariant_of-self : goal.invariant_of-self
invariant_of-self c =
    let history : List Process = c.self.inside.ledger.processes in
    let marks : MarksView = c.self.inside.marks in
    let rows : List (List Row) = c.self.inside.rows.rows in
    let presents : List (List ℕ) = c.self.inside.rows.presents in
    let line : List Choice = c.args.line.now in
    let seen : history
    ≡ c.args.self.now.processes = ap (λ (v : CatalogueView). v.processes) c.self.view_is in
    let is_line : IsLine history line = subst (λ (xs : List Process). IsLine xs line)
    (sym seen) c.requires.line in
    let left : c.restart.new.self.processes
    ≡ restarted_history history line = c.restart.ensures.processes in
    let read : c.history.result.now.processes ≡ restarted_history history line = ap
    (λ (v : HistoryView). v.processes) c.history.ensures ∙ left in
    let same : length c.history.result.now.processes ≡ length history = ap
    (λ (xs : List Process). length xs) read ∙ length-restarted history line is_line in
    let consistent : IsConsistent history line = subst (λ (xs : List Process). IsConsistent xs line)
    (sym seen) c.requires.consistent in
    let new : List (List Row) = c.restart-3.new.self.rows in
    let news : List (List ℕ) = c.restart-3.new.self.presents in
    let placed : (p : ℕ) → p < length history → WithPlaces (tape_at (restarted_history history line)
    p) (rows_kept (choice_at line p) (rows_at rows p)) (rows_at new p) =
    λ p h. subst
    (λ (xs : List Process). WithPlaces (tape_at xs p) (rows_kept (choice_at line p) (rows_at
    rows p)) (rows_at new p)) read (c.restart-3.ensures.rows p (omega (arith, h, same)))
    in
    let kept : (p : ℕ) → p < length history → present_at news p
    ≡ vector_at (rows_at rows p) (present_at presents p) (choice_at line p) =
    λ p h. c.restart-3.ensures.presents p (omega (arith, h, same))
    in
    subst (λ (xs : List Process). IsCatalogue xs c.restart-2.new.self new news) (sym left)
    (subst (λ (m : MarksView). IsCatalogue (restarted_history history line) m new news)
    (sym c.restart-2.ensures)
    (IsCatalogue-restarted history marks rows presents line c.self.invariant is_line new news
    consistent (c.restart-3.ensures.count ∙ c.self.invariant.rows_count)
    (c.restart-3.ensures.presents_count ∙ c.self.invariant.rows_count) placed kept))
