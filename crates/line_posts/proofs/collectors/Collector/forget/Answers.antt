-- What is kept then is what is left of the whole.
use Rattle.std.proofs.Common.{◌∙◌, ap, subst, sym}
use Rattle.std.specs.Prelude.{Option}
use Rattle.line_catalogue.specs.Views.{CatalogueView}
use Rattle.line_posts.specs.declared.forgetting.Forgotten.{Forgotten}
use Rattle.line_posts.specs.Collected.{CollectorView, HasForgotten, IsShortOfNumbers}
use Rattle.line_posts.specs.Ends.{in_ends, known_rows}
use Rattle.line_posts.specs.Forgotten.{taken_history}
use Rattle.line_posts.specs.Kept.{collector_at, IsKeptOf}
use Rattle.line_posts.proofs.ForgetLemmas.{forgotten_of, live_of_kept}
use Rattle.line_posts.proofs.LeftLemmas.{both_kept, either_way, err_then, ok_then}
use Rattle.line_posts.proofs.ReportLemmas.{collects}
use Rattle.line_posts.proofs.collectors.Collector.forget.Goals as goal

pub invariant_of-self : goal.invariant_of-self
invariant_of-self c =
    let I = c.self.inside in
    let O = I.opening.value.processes in
    let L = in_ends I.lines.items in
    let H = taken_history O L in
    let G = c.let_go in (
      collects O G.new.forgotten G.new.catalogue.marks L
          (known_rows I.lines.items) I.capacity c.self.invariant.0.line_count,
      either_way G.result _ _ _ (IsKeptOf G.new.forgotten H G.new.catalogue.processes
          G.new.catalogue.marks) G.ensures.done G.ensures.same G.ensures.still
          (λ done. (done H c.self.invariant.1).keeps)
          (λ same still. subst
          (λ (f : Option Forgotten). IsKeptOf f H G.new.catalogue.processes
          G.new.catalogue.marks) (sym still) (subst (λ (k : CatalogueView). IsKeptOf I.forgotten
          H k.processes k.marks) (sym same) c.self.invariant.1)),
    )

pub returns-clause-done : goal.returns-clause-done
returns-clause-done c =
    let I = c.self.inside in
    let O = I.opening.value.processes in
    let L = in_ends I.lines.items in
    let H = taken_history O L in
    let G = c.let_go in
    ok_then G.result _ _
    (λ done. subst (λ (v : CollectorView). HasForgotten v (collector_at O G.new.forgotten
    G.new.catalogue.marks L (known_rows I.lines.items) I.capacity)) c.self.view_is
    (forgotten_of O I.forgotten G.new.forgotten I.catalogue G.new.catalogue L (known_rows
    I.lines.items) I.capacity c.self.invariant.1 (done H c.self.invariant.1))) G.ensures.done

pub returns-clause-same : goal.returns-clause-same
returns-clause-same c =
    let I = c.self.inside in
    let O = I.opening.value.processes in
    let L = in_ends I.lines.items in
    let G = c.let_go in
    both_kept G.result _ _ _ G.ensures.same G.ensures.still (λ same still.
    ap (λ (k : CatalogueView). collector_at O G.new.forgotten k.marks L
    (known_rows I.lines.items) I.capacity) same
    ∙ ap (λ (f : Option Forgotten). collector_at O f I.catalogue.marks L
    (known_rows I.lines.items) I.capacity) still
    ∙ c.self.view_is)

pub returns-clause-spent : goal.returns-clause-spent
returns-clause-spent c =
    let I = c.self.inside in
    let H = taken_history I.opening.value.processes (in_ends I.lines.items) in
    let G = c.let_go in
    err_then G.result _ _ (λ why spent other.
    let told = spent other in (
      told.0,
      subst IsShortOfNumbers c.self.view_is (record {
        later = told.1;
        at = live_of_kept I.forgotten H I.catalogue.processes I.catalogue.marks told.1
            c.self.invariant.1 told.2;
        spent = told.3;
      }),
    )) G.ensures.spent
