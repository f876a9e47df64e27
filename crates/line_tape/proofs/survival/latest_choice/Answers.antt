-- The definition's two laws, at what was found.
use Rattle.std.proofs.Common.{◌≡◌, Bool, true, cond, List, sym, ap, ◌∙◌, subst}
use Rattle.line_tape.specs.declared.events.Event.{Event}
use Rattle.line_names.specs.declared.choices.Choice.{Choice}
use Rattle.line_names.specs.declared.choices.Choice.TheVariants.{Now}
use Rattle.line_names.specs.Order.{IsNoLater}
use Rattle.line_tape.specs.Event.{checks}
use Rattle.line_tape.specs.History.{tape_at}
use Rattle.line_tape.specs.Survival.{survives}
use Rattle.line_tape.specs.Chain.{latest_check, latest_choice}
use Rattle.line_tape.proofs.ChoiceLemmas.{latest_choice_survives, latest_choice_above}
use Rattle.line_tape.proofs.survival.latest_choice.Goals as goal

pub returns-clause-survives : goal.returns-clause-survives
returns-clause-survives c =
    let passes : Choice → Bool = survives c.args.history.now.processes c.args.marks.now
    c.args.failed.now c.args.p in
    let tape : List Event = tape_at c.args.history.now.processes c.args.p in
    let last : c.checks.result
    ≡ checks tape = c.checks.ensures.value ∙ ap checks c.tape.ensures.events in
    let value : c.latest_check.result
    ≡ latest_choice c.args.history.now.processes c.args.marks.now c.args.failed.now c.args.p =
    c.latest_check.ensures ∙ ap (latest_check passes) last ∙ ap (λ (b : Bool). cond b Now
    (latest_check passes (checks tape))) (sym (sym c.survives.ensures ∙ c.if-survives.false)) in
    subst (λ (x : Choice). passes x ≡ true) (sym value) (latest_choice_survives
    c.args.history.now.processes c.args.marks.now c.args.failed.now c.args.p)

pub returns-clause-latest : goal.returns-clause-latest
returns-clause-latest c = λ other lives.
    let passes : Choice → Bool = survives c.args.history.now.processes c.args.marks.now
    c.args.failed.now c.args.p in
    let tape : List Event = tape_at c.args.history.now.processes c.args.p in
    let last : c.checks.result
    ≡ checks tape = c.checks.ensures.value ∙ ap checks c.tape.ensures.events in
    let value : c.latest_check.result
    ≡ latest_choice c.args.history.now.processes c.args.marks.now c.args.failed.now c.args.p =
    c.latest_check.ensures ∙ ap (latest_check passes) last ∙ ap (λ (b : Bool). cond b Now
    (latest_check passes (checks tape))) (sym (sym c.survives.ensures ∙ c.if-survives.false)) in
    subst (IsNoLater other) (sym value) (latest_choice_above c.args.history.now.processes
    c.args.marks.now c.args.failed.now c.args.p other lives)
