-- A plan of what is kept has few numbers; it is brought back where something was let go.
use Rattle.std.proofs.Common.{◌≡◌, List, Bool, sym, ◌∙◌, subst}
use Rattle.std.specs.List.{All}
use Rattle.line_tape.specs.Fit.{IsFitFifo}
use Rattle.line_tape.specs.History.{IsHistory}
use Rattle.line_plan.specs.declared.plans.Plan.{Plan}
use Rattle.line_tape.specs.declared.modes.Mode.{Mode}
use Rattle.line_moves.specs.Listed.{IsReached}
use Rattle.line_moves.specs.Modes.{IsFitIn}
use Rattle.line_world.specs.Machine.{Machine}
use Rattle.line_world.specs.Steps.{IsPlan}
use Rattle.line_cuts.specs.Cuts.{Floor}
use Rattle.line_live.specs.CutMachines.{whole_plan}
use Rattle.line_live.specs.Lives.{IsPlanOfKept, LiveMachine}
use Rattle.line_live.proofs.FewNumbers.{plan_few}
use Rattle.line_live.proofs.FirstFloors.{plan_none}
use Rattle.line_live.proofs.lives.Live.plan_for.Goals as goal
use Rattle.line_live.proofs.lives.Live.plan_for.Goals.{then-self, else-self}

planned : (live : LiveMachine) (failed : List Bool) (plan kept : Plan)
    → IsPlan live.kept failed kept → All (IsReached live.kept.history live.kept.marks failed
    kept.line) live.kept.rounds → plan ≡ whole_plan live.floor kept → IsPlanOfKept live failed plan
planned live failed plan kept is reached brought =
    record { kept = kept; plan_is = is; reached = reached; brought_back = brought }

pub bring_plan-requires-clause-few : goal.bring_plan-requires-clause-few
bring_plan-requires-clause-few c =
    let kept : Machine = c.self.inside.world in
    let limits : IsHistory kept.history = subst IsHistory c.history-history.ensures.value
    c.n-n.ensures.limits in
    let fit : IsFitFifo kept.history = subst (λ (mode : Mode). IsFitIn mode kept.history)
    (c.self.invariant.fifo c.if-self.true) c.history-history.ensures.fit in
    plan_few kept c.args.failed.now c.in_ok-plan.plan limits fit c.in_ok-plan.ensures.plan

pub returns-clause-plan : goal.returns-clause-plan
returns-clause-plan c =
    let kept : Machine = c.self.inside.world in
    let floor : Floor = c.self.inside.floor in
    let live : LiveMachine = record { floor = floor; kept = kept } in
    elim c.if-self.branch [
      | then-self w ↦ subst
          (λ (m : LiveMachine). IsPlanOfKept m c.args.failed.now c.if-self.plan) c.self.view_is
          (planned live c.args.failed.now c.if-self.plan c.in_ok-plan.plan c.in_ok-plan.ensures.plan
          c.in_ok-plan.ensures.rounds (w.plan-is ∙ w.bring_plan.ensures))
      | else-self w ↦ subst
          (λ (m : LiveMachine). IsPlanOfKept m c.args.failed.now c.if-self.plan) c.self.view_is
          (planned live c.args.failed.now c.if-self.plan c.in_ok-plan.plan c.in_ok-plan.ensures.plan
          c.in_ok-plan.ensures.rounds (w.plan-is ∙ sym
          (plan_none floor (c.self.invariant.none w.if-self.false) c.in_ok-plan.plan)))
    ]
