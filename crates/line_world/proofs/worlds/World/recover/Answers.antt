-- What was planned is what all go on from.
use Rattle.std.proofs.Common.{◌≡◌, false, sym, subst}
use Rattle.std.proofs.lemmas.Bool.{false_from_ne_true}
use Rattle.line_plan.specs.declared.plans.Plan.{Plan}
use Rattle.line_world.specs.Refusals.{has_stranger}
use Rattle.line_world.specs.Steps.{IsPlan, Recovers}
use Rattle.line_world.proofs.StepLemmas.{may_recover}
use Rattle.line_world.proofs.worlds.World.recover.Goals as goal

pub go_back-requires-clause-known : goal.go_back-requires-clause-known
go_back-requires-clause-known c =
    false_from_ne_true (has_stranger c.args.self.now c.args.failed.now)
    (λ t. let wrong = c.in_ok-plan.ensures.stranger.1 t in absurd (cc))

pub go_back-requires-clause-plan : goal.go_back-requires-clause-plan
go_back-requires-clause-plan c = subst (λ (p : Plan). IsPlan c.args.self.now c.args.failed.now p)
    (sym c.deref.ensures) c.in_ok-plan.ensures.plan

pub returns-clause-done : goal.returns-clause-done
returns-clause-done c =
    let known : has_stranger c.args.self.now c.args.failed.now ≡ false =
    false_from_ne_true (has_stranger c.args.self.now c.args.failed.now)
    (λ t. let wrong = c.in_ok-plan.ensures.stranger.1 t in absurd (cc)) in (
      may_recover c.args.self.now c.args.failed.now known,
      subst (λ (p : Plan). Recovers c.args.self.now c.args.failed.now p c.in_ok-states.states.items
          c.in_ok-states.incarnations.items c.go_back.new.self)
          c.deref.ensures c.in_ok-states.ensures.done,
    )
