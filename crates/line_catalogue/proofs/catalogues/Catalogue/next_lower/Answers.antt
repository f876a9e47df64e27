-- The definition's two laws, at what was found.
use Rattle.std.proofs.Common.{◌≡◌, true, sym, ap, ◌∙◌, subst}
use Rattle.line_names.specs.declared.choices.Choice.{Choice}
use Rattle.line_names.specs.Order.{IsNoLater}
use Rattle.line_tape.specs.Event.{checks}
use Rattle.line_tape.specs.History.{tape_at}
use Rattle.line_tape.specs.Survival.{survives}
use Rattle.line_tape.specs.Chain.{latest_check, next_lower}
use Rattle.line_tape.specs.Views.{HistoryView}
use Rattle.line_tape.proofs.ChoiceLemmas.{next_lower_survives, next_lower_above}
use Rattle.line_catalogue.specs.Views.{CatalogueView}
use Rattle.line_catalogue.proofs.catalogues.Catalogue.next_lower.Goals as goal

pub returns-in-Check-clause-survives : goal.returns-in-Check-clause-survives
returns-in-Check-clause-survives c =
    let value : c.latest_check.result
    ≡ next_lower c.args.self.now.processes c.args.self.now.marks c.args.failed.now c.args.p
    c.args.choice = c.latest_check.ensures ∙ ap (next_lower c.args.self.now.processes
    c.args.self.now.marks c.args.failed.now c.args.p) (sym c.in-Check.is) in
    subst (λ (x : Choice). survives c.args.self.now.processes c.args.self.now.marks
    c.args.failed.now c.args.p x ≡ true) (sym value) (next_lower_survives
    c.args.self.now.processes c.args.self.now.marks c.args.failed.now c.args.p c.args.choice)

pub returns-in-Check-clause-latest : goal.returns-in-Check-clause-latest
returns-in-Check-clause-latest c = λ other lives earlier apart.
    let value : c.latest_check.result
    ≡ next_lower c.args.self.now.processes c.args.self.now.marks c.args.failed.now c.args.p
    c.args.choice = c.latest_check.ensures ∙ ap (next_lower c.args.self.now.processes
    c.args.self.now.marks c.args.failed.now c.args.p) (sym c.in-Check.is) in
    subst (IsNoLater other) (sym value) (next_lower_above c.args.self.now.processes
    c.args.self.now.marks c.args.failed.now c.args.p c.args.choice other earlier apart lives)

pub returns-in-Now-clause-survives : goal.returns-in-Now-clause-survives
returns-in-Now-clause-survives c =
    let last : c.checks.result
    ≡ checks (tape_at c.args.self.now.processes c.args.p) = c.checks.ensures.value ∙ ap checks
    c.tape.ensures.events ∙ ap
    (λ (v : HistoryView). checks (tape_at v.processes c.args.p)) c.history.ensures ∙ ap
    (λ (v : CatalogueView). checks (tape_at v.processes c.args.p)) c.self.view_is in
    let value : c.latest_check-in-Now.result
    ≡ next_lower c.args.self.now.processes c.args.self.now.marks c.args.failed.now c.args.p
    c.args.choice = c.latest_check-in-Now.ensures ∙ ap
    (latest_check
    (survives c.args.self.now.processes c.args.self.now.marks c.args.failed.now c.args.p)) last
    ∙ ap (next_lower c.args.self.now.processes c.args.self.now.marks c.args.failed.now c.args.p)
    (sym c.in-Now.is) in
    subst (λ (x : Choice). survives c.args.self.now.processes c.args.self.now.marks
    c.args.failed.now c.args.p x ≡ true) (sym value) (next_lower_survives
    c.args.self.now.processes c.args.self.now.marks c.args.failed.now c.args.p c.args.choice)

pub returns-in-Now-clause-latest : goal.returns-in-Now-clause-latest
returns-in-Now-clause-latest c = λ other lives earlier apart.
    let last : c.checks.result
    ≡ checks (tape_at c.args.self.now.processes c.args.p) = c.checks.ensures.value ∙ ap checks
    c.tape.ensures.events ∙ ap
    (λ (v : HistoryView). checks (tape_at v.processes c.args.p)) c.history.ensures ∙ ap
    (λ (v : CatalogueView). checks (tape_at v.processes c.args.p)) c.self.view_is in
    let value : c.latest_check-in-Now.result
    ≡ next_lower c.args.self.now.processes c.args.self.now.marks c.args.failed.now c.args.p
    c.args.choice = c.latest_check-in-Now.ensures ∙ ap
    (latest_check
    (survives c.args.self.now.processes c.args.self.now.marks c.args.failed.now c.args.p)) last
    ∙ ap (next_lower c.args.self.now.processes c.args.self.now.marks c.args.failed.now c.args.p)
    (sym c.in-Now.is) in
    subst (IsNoLater other) (sym value) (next_lower_above c.args.self.now.processes
    c.args.self.now.marks c.args.failed.now c.args.p c.args.choice other earlier apart lives)
