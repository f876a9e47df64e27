use Rattle.std.proofs.Common.{◌≡◌, false, List, sym, subst}
use Rattle.std.proofs.lemmas.Bool.{both_ways, false_from_ne_true}
use Rattle.line_plan.specs.declared.plans.Plan.{Plan}
use Rattle.line_tape.specs.History.{Process}
use Rattle.line_tape.specs.Restart.{HaveFurther}
use Rattle.line_world.specs.Refusals.{has_stranger}
use Rattle.line_text.proofs.ViewLemmas.{spent_refused}
use Rattle.line_text.proofs.views.plan_to_recover.Goals as goal

pub returns-then-not-has_further-clause-refused : goal.returns-then-not-has_further-clause-refused
returns-then-not-has_further-clause-refused c = λ other.
    let known : has_stranger c.args.world.now c.args.failed.now ≡ false =
    false_from_ne_true (has_stranger c.args.world.now c.args.failed.now)
    (λ t. let wrong = c.in_ok-plan.ensures.stranger.1 t in absurd (cc)) in
    spent_refused c.args.world.now c.args.failed.now c.in_ok-plan.plan.value known
    c.in_ok-plan.ensures.plan
    (λ further. both_ways c.has_further.result c.if-not-has_further.true
    (c.has_further.ensures.1
    (subst (λ (p : Plan). HaveFurther c.history.result.now.processes p.line) (sym c.deref.ensures)
    (subst (λ (h : List Process). HaveFurther h c.in_ok-plan.plan.value.line)
    (sym c.history.ensures.value) further))))

pub returns-clause-plan : goal.returns-clause-plan
returns-clause-plan c = record {
  there = false_from_ne_true (has_stranger c.args.world.now c.args.failed.now)
      (λ t. let wrong = c.in_ok-plan.ensures.stranger.1 t in absurd (cc));
  planned = c.in_ok-plan.ensures.plan;
  further = subst
      (λ (h : List Process). HaveFurther h c.in_ok-plan.plan.value.line) c.history.ensures.value
      (subst (λ (p : Plan). HaveFurther c.history.result.now.processes p.line) c.deref.ensures
      (c.has_further.ensures.0 c.if-not-has_further.false));
}
