-- A plan of what is kept has few numbers.
use Rattle.std.proofs.Common.{◌≡◌, subst, sym}
use Rattle.line_collect.specs.Collections.{IsPlanToGoBack}
use Rattle.line_collect.specs.Lives.{LiveCollectionView}
use Rattle.line_live.specs.CutMachines.{whole_plan}
use Rattle.line_collect.proofs.ToldPlans.{plan_told}
use Rattle.line_tape.specs.History.{IsHistory}
use Rattle.line_collect.proofs.live_collections.LiveCollection.bring_names_back.Goals as goal

pub bring_names_back-requires : goal.bring_names_back-requires
bring_names_back-requires c =
    let live : LiveCollectionView = record
    { floor = c.self.inside.floor; kept = c.self.inside.kept } in
    let limits : IsHistory live.kept.history = subst IsHistory c.history.ensures.value
    c.n-n.ensures.limits in
    let is : IsPlanToGoBack live.kept c.args.failed.now c.args.plan.now = subst
    (λ (l : LiveCollectionView). IsPlanToGoBack l.kept c.args.failed.now c.args.plan.now)
    (sym c.self.view_is) c.requires in
    plan_told live limits c.self.invariant c.args.failed.now c.args.plan.now is.plan_is

pub returns : goal.returns
returns c =
    subst (λ (l : LiveCollectionView). c.bring_names_back.new.plan ≡ record (whole_plan l.floor
    c.args.plan.now) { line = c.args.plan.now.line }) c.self.view_is c.bring_names_back.ensures
