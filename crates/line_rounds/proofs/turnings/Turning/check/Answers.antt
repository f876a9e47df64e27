-- The process's check is written.
use Rattle.std.proofs.Common.{ℕ, List, set, Some, sym, subst}
use Rattle.line_tape.specs.declared.events.Event.TheVariants.{Check}
use Rattle.line_tape.specs.History.{with_event}
use Rattle.line_rounds.specs.Turning.{TurningView, IsTurning}
use Rattle.line_rounds.proofs.TurningLemmas.{IsTurning-check}
use Rattle.line_rounds.proofs.turnings.Turning.check.Goals as goal

pub returns-clause-turning : goal.returns-clause-turning
returns-clause-turning c = λ history state is none index_is.
    let old : TurningView = c.args.self.now in
    let before : TurningView = record
    { number = c.self.inside.number; checks = c.self.inside.checks.items } in
    let new : ℕ → List ℕ
    → TurningView = λ number checks. record { number = number; checks = checks } in
    subst (λ (v : ℕ). IsTurning (with_event history c.args.p (Check state (Some old.number)))
    (new c.self.inside.number (set c.self.inside.checks.items v c.args.index)))
    (sym c.get.ensures.value)
    (subst (λ (v : TurningView). IsTurning (with_event history c.args.p (Check state (Some
    old.number))) (new v.number (set v.checks c.args.p c.args.index))) (sym c.self.view_is)
    (IsTurning-check history c.args.p state old.number old.checks c.args.index c.requires is none
    index_is))
