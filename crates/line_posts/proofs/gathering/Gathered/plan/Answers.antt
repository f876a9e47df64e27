use Rattle.std.proofs.Common.{subst}
use Rattle.std.specs.Prelude.{IfOk}
use Rattle.line_tape.specs.Survival.{IsLatest}
use Rattle.line_posts.specs.Gathered.{GatheredView, HasOwn}
use Rattle.line_posts.proofs.RoundsGathered.{rounds_reached, if_ok_then}
use Rattle.line_posts.proofs.gathering.Gathered.plan.Goals as goal

pub returns-clause-rounds : goal.returns-clause-rounds
returns-clause-rounds c =
    let v = c.args.self.now in
    let has = subst
    (λ (g : GatheredView). HasOwn g.failed g.processes) c.self.view_is c.self.invariant in
    if_ok_then c.plan.result _ _
    (λ plan latest r done surviving. rounds_reached v.failed v.processes v.marks plan.line has
    latest r done surviving) (subst (λ (g : GatheredView). IfOk c.plan.result (λ plan. IsLatest
    g.processes g.marks g.failed plan.line)) c.self.view_is c.plan.ensures.latest)
