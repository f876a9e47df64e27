-- A plan of what is kept has few numbers, and is brought back.
use Rattle.std.proofs.Common.{subst}
use Rattle.line_collect.specs.Lives.{IsLivePlan, LiveCollectionView}
use Rattle.line_collect.proofs.CallLemmas.{planned}
use Rattle.line_collect.proofs.ToldPlans.{plan_told}
use Rattle.line_tape.specs.History.{IsHistory}
use Rattle.line_collect.proofs.live_collections.LiveCollection.plan.Goals as goal

pub bring_plan_back-requires : goal.bring_plan_back-requires
bring_plan_back-requires c =
    let live : LiveCollectionView = record
    { floor = c.self.inside.floor; kept = c.self.inside.kept } in
    let limits : IsHistory live.kept.history = subst IsHistory c.history.ensures.value
    c.n-n.ensures.limits in
    plan_told live limits c.self.invariant c.args.failed.now c.in_ok-plan.plan
    c.in_ok-plan.ensures.plan.plan_is

pub returns-clause-plan : goal.returns-clause-plan
returns-clause-plan c =
    let live : LiveCollectionView = record
    { floor = c.self.inside.floor; kept = c.self.inside.kept } in
    subst (λ (l : LiveCollectionView). IsLivePlan l c.args.failed.now c.bring_plan_back.new.plan)
    c.self.view_is
    (planned live c.args.failed.now c.bring_plan_back.new.plan c.in_ok-plan.plan
    c.in_ok-plan.ensures.plan c.bring_plan_back.ensures)
