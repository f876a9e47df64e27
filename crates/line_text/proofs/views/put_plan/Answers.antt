use Rattle.std.proofs.Common.{rules, ◌≢◌, ap, sym}
use Rattle.std.specs.Prelude.{codes}
use Rattle.std.proofs.lemmas.Result.{err_from_is_err_and}
use Rattle.line_fields.specs.Texts.{records_text}
use Rattle.line_plan.specs.declared.plans.Plan.{Plan}
use Rattle.line_world.specs.declared.replies.Answer.TheVariants as answers
use Rattle.line_world.specs.declared.replies.Reply.TheVariants.{Recovered}
use Rattle.line_world.specs.declared.replies.StepError.TheVariants as errors
use Rattle.line_text.specs.Replies.{recovery_records}
use Rattle.line_text.proofs.AnswerLemmas.{other_halt}
use Rattle.line_text.proofs.ViewLemmas.{planned_does, planned_front, refused_text}
use Rattle.line_text.proofs.views.put_plan.Goals as goal

pub returns-in_ok-put_recovery-in-Ok-clause-ok : goal.returns-in_ok-put_recovery-in-Ok-clause-ok
returns-in_ok-put_recovery-in-Ok-clause-ok g c =
    planned_does _ _ (answers.Done (Recovered c.in-Ok.told.plan c.in-Ok.told.states
    c.in-Ok.told.incarnations)) _ _ _ _ _ c.in-Ok.ensures.done
    (ap (λ (p : Plan). records_text
    (recovery_records (codes "planned") p.sweeps p.certificate.items p.replays.items p.line
    c.in-Ok.told.incarnations.items c.in-Ok.told.states.items)) (sym c.deref.ensures))
    c.in_ok-put_recovery-in-Ok.ensures.ok

pub returns-in_err-put_recovery-in-Ok-clause-memory :
    goal.returns-in_err-put_recovery-in-Ok-clause-memory
returns-in_err-put_recovery-in-Ok-clause-memory g c =
    let passed_on = err_from_is_err_and c.from_residual.result c.from_residual.ensures.1 in
    rw (passed_on.1, passed_on.2) (λ same. absurd (other_halt same))

pub returns-in_err-put_recovery-in-Ok-clause-write :
    goal.returns-in_err-put_recovery-in-Ok-clause-write
returns-in_err-put_recovery-in-Ok-clause-write g c =
    let passed_on = err_from_is_err_and c.from_residual.result c.from_residual.ensures.1 in
    rw passed_on.1
    (λ same. planned_front _ _ (answers.Done (Recovered c.in-Ok.told.plan c.in-Ok.told.states
    c.in-Ok.told.incarnations)) _ _ _ _ c.in-Ok.ensures.done
    (ap (λ (p : Plan). records_text
    (recovery_records (codes "planned") p.sweeps p.certificate.items p.replays.items p.line
    c.in-Ok.told.incarnations.items c.in-Ok.told.states.items)) (sym c.deref.ensures))
    c.in_err-put_recovery-in-Ok.ensures.err)

pub returns-in_err-put_recovery-in-Ok-clause-failed :
    goal.returns-in_err-put_recovery-in-Ok-clause-failed
returns-in_err-put_recovery-in-Ok-clause-failed g c =
    let passed_on = err_from_is_err_and c.from_residual.result c.from_residual.ensures.1 in
    rw passed_on.1 (λ same. c.in_err-put_recovery-in-Ok.ensures.failed)

pub returns-in_ok-put_refusal-in-Err-clause-ok : goal.returns-in_ok-put_refusal-in-Err-clause-ok
returns-in_ok-put_refusal-in-Err-clause-ok g c =
    let differs : c.in-Err.error ≢ errors.OutOfMemory = search rules in
    planned_does _ _ (answers.Refused c.in-Err.error) _ _ _ _ _ (c.in-Err.ensures.refused differs)
    (refused_text c.in-Err.error _ c.code.ensures) c.in_ok-put_refusal-in-Err.ensures.ok

pub returns-in_err-put_refusal-in-Err-clause-memory :
    goal.returns-in_err-put_refusal-in-Err-clause-memory
returns-in_err-put_refusal-in-Err-clause-memory g c =
    let passed_on = err_from_is_err_and c.from_residual-in_err-put_refusal-in-Err.result
    c.from_residual-in_err-put_refusal-in-Err.ensures.1 in
    rw (passed_on.1, passed_on.2) (λ same. absurd (other_halt same))

pub returns-in_err-put_refusal-in-Err-clause-write :
    goal.returns-in_err-put_refusal-in-Err-clause-write
returns-in_err-put_refusal-in-Err-clause-write g c =
    let passed_on = err_from_is_err_and c.from_residual-in_err-put_refusal-in-Err.result
    c.from_residual-in_err-put_refusal-in-Err.ensures.1 in
    let differs : c.in-Err.error ≢ errors.OutOfMemory = search rules in
    rw passed_on.1
    (λ same. planned_front _ _ (answers.Refused c.in-Err.error) _ _ _ _
    (c.in-Err.ensures.refused differs)
    (refused_text c.in-Err.error _ c.code.ensures) c.in_err-put_refusal-in-Err.ensures.err)

pub returns-in_err-put_refusal-in-Err-clause-failed :
    goal.returns-in_err-put_refusal-in-Err-clause-failed
returns-in_err-put_refusal-in-Err-clause-failed g c =
    let passed_on = err_from_is_err_and c.from_residual-in_err-put_refusal-in-Err.result
    c.from_residual-in_err-put_refusal-in-Err.ensures.1 in
    rw passed_on.1 (λ same. c.in_err-put_refusal-in-Err.ensures.failed)
