-- What is kept goes back by its own plan, which is then brought back.
use Rattle.std.proofs.Common.{subst, sym}
use Rattle.line_collect.specs.Brought.{HasWholeNumbers}
use Rattle.line_collect.specs.Collections.{CollectionView}
use Rattle.line_collect.specs.Lives.{LiveCollectionView, RecoversLive}
use Rattle.line_collect.proofs.CallLemmas.{recovered}
use Rattle.line_collect.proofs.ToldLemmas.{restart_told}
use Rattle.line_collect.proofs.ToldPlans.{plan_told}
use Rattle.line_tape.specs.History.{IsHistory}
use Rattle.line_collect.proofs.live_collections.LiveCollection.recover.Goals as goal

pub bring_plan_back-requires : goal.bring_plan_back-requires
bring_plan_back-requires c =
    let live : LiveCollectionView = record
    { floor = c.self.inside.floor; kept = c.self.inside.kept } in
    let limits : IsHistory live.kept.history = subst IsHistory c.history.ensures.value
    c.n-n.ensures.limits in
    plan_told live limits c.self.invariant c.args.failed.now c.in_ok-plan.plan
    c.in_ok-plan.ensures.plan.plan_is

pub invariant_of-self : goal.invariant_of-self
invariant_of-self c =
    let live : LiveCollectionView = record
    { floor = c.self.inside.floor; kept = c.self.inside.kept } in
    subst (λ (k : CollectionView). HasWholeNumbers
    (record { floor = c.self.inside.floor; kept = k })) (sym c.go_on.ensures)
    (restart_told live c.self.invariant c.in_ok-plan.plan.line
    c.in_ok-plan.ensures.plan.plan_is.latest.recoverable.length_is)

pub returns-clause-done : goal.returns-clause-done
returns-clause-done c =
    let live : LiveCollectionView = record
    { floor = c.self.inside.floor; kept = c.self.inside.kept } in
    subst (λ (l : LiveCollectionView). RecoversLive l c.args.failed.now c.bring_plan_back.new.plan
    (record { floor = c.self.inside.floor; kept = c.go_on.new.self })) c.self.view_is
    (recovered live c.args.failed.now c.bring_plan_back.new.plan c.in_ok-plan.plan c.go_on.new.self
    c.in_ok-plan.ensures.plan c.bring_plan_back.ensures c.go_on.ensures)
