-- A plan of what is kept has few numbers; it is brought back where something was let go.
use Rattle.std.proofs.Common.{sym, ap, ◌∙◌, subst}
use Rattle.line_tape.specs.Fit.{IsFitFifo}
use Rattle.line_tape.specs.History.{IsHistory}
use Rattle.line_tape.specs.declared.modes.Mode.{Mode}
use Rattle.line_moves.specs.Modes.{IsFitIn}
use Rattle.line_world.specs.Machine.{Machine}
use Rattle.line_world.specs.Steps.{IsPlan}
use Rattle.line_live.specs.CutMachines.{whole_plan}
use Rattle.line_live.specs.Lives.{LiveMachine}
use Rattle.line_live.proofs.FewNumbers.{plan_few}
use Rattle.line_live.proofs.FirstFloors.{plan_none}
use Rattle.line_live.proofs.lives.Live.bring_back.Goals as goal

pub bring_plan-requires-clause-few : goal.bring_plan-requires-clause-few
bring_plan-requires-clause-few c =
    let kept : Machine = c.self.inside.world in
    let limits : IsHistory kept.history = subst IsHistory c.history-history.ensures.value
    c.n-n.ensures.limits in
    let fit : IsFitFifo kept.history = subst (λ (mode : Mode). IsFitIn mode kept.history)
    (c.self.invariant.fifo c.if-self.true) c.history-history.ensures.fit in
    let is : IsPlan kept c.args.failed.now c.args.plan.now = subst (λ (live : LiveMachine). IsPlan
    live.kept c.args.failed.now c.args.plan.now) (sym c.self.view_is) c.requires in
    plan_few kept c.args.failed.now c.args.plan.now limits fit is

pub returns-then-self : goal.returns-then-self
returns-then-self c = c.bring_plan.ensures ∙ ap
    (λ (live : LiveMachine). whole_plan live.floor c.args.plan.now) c.self.view_is

pub returns-else-self : goal.returns-else-self
returns-else-self c = sym
    (plan_none c.self.inside.floor (c.self.invariant.none c.if-self.false) c.args.plan.now) ∙ ap
    (λ (live : LiveMachine). whole_plan live.floor c.args.plan.now) c.self.view_is
