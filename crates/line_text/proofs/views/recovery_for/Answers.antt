use Rattle.std.proofs.Common.{List, length, map, sym, subst, ap, ◌∙◌}
use Rattle.line_plan.specs.declared.plans.Plan.{Plan}
use Rattle.line_tape.specs.History.{Process}
use Rattle.line_tape.specs.Line.{IsLine}
use Rattle.line_tape.specs.Restart.{HaveFurther, restarted_history}
use Rattle.line_moves.specs.Restarts.{restored_states}
use Rattle.line_moves.proofs.LineFacts.{IsLine-latest}
use Rattle.line_world.specs.Steps.{restarted_machine}
use Rattle.line_world.proofs.StepLemmas.{may_recover}
use Rattle.line_text.proofs.ViewLemmas.{would_recover}
use Rattle.line_text.proofs.views.recovery_for.Goals as goal

pub restored_states-requires : goal.restored_states-requires
restored_states-requires c =
    subst (λ (p : Plan). IsLine c.history-history.result.now.processes p.line) (sym c.deref.ensures)
    (subst (λ (h : List Process). IsLine h c.in_ok-plan.plan.value.line)
    (sym c.history-history.ensures.value)
    (IsLine-latest c.args.world.now.history c.args.world.now.marks c.args.failed.now
    c.in_ok-plan.plan.value.line c.in_ok-plan.ensures.plan.planned.latest))

pub restarted_incarnations-requires-clause-line : goal.restarted_incarnations-requires-clause-line
restarted_incarnations-requires-clause-line c =
    ap (λ (p : Plan). length p.line) c.deref-2.ensures ∙
    c.in_ok-plan.ensures.plan.planned.latest.recoverable.length_is ∙ ap
    (λ (h : List Process). length h) (sym c.history-history.ensures.value)

pub restarted_incarnations-requires-clause-further :
    goal.restarted_incarnations-requires-clause-further
restarted_incarnations-requires-clause-further c =
    subst (λ (p : Plan). HaveFurther c.history-history.result.now.processes p.line)
    (sym c.deref-2.ensures)
    (subst (λ (h : List Process). HaveFurther h c.in_ok-plan.plan.value.line)
    (sym c.history-history.ensures.value) c.in_ok-plan.ensures.plan.further)

pub returns-clause-done : goal.returns-clause-done
returns-clause-done c = (
  restarted_machine c.args.world.now c.in_ok-plan.plan.value.line,
  (
    may_recover c.args.world.now c.args.failed.now c.in_ok-plan.ensures.plan.there,
    would_recover c.args.world.now c.args.failed.now c.in_ok-plan.plan.value
        c.in_ok-states.states.items c.in_ok-incarnations.incarnations.items
        c.in_ok-plan.ensures.plan.planned c.in_ok-plan.ensures.plan.further
        (c.in_ok-states.ensures
        ∙ ap (λ (p : Plan). restored_states c.history-history.result.now.processes p.line)
        c.deref.ensures
        ∙ ap (λ (h : List Process). restored_states h c.in_ok-plan.plan.value.line)
        c.history-history.ensures.value)
        (c.in_ok-incarnations.ensures
        ∙ ap (λ (p : Plan). map (λ (process : Process). process.incarnation)
        (restarted_history c.history-history.result.now.processes p.line)) c.deref-2.ensures
        ∙ ap (λ (h : List Process). map (λ (process : Process). process.incarnation)
        (restarted_history h c.in_ok-plan.plan.value.line)) c.history-history.ensures.value),
  ),
)
