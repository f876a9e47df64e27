use Rattle.std.proofs.Common.{rules, ◌≢◌, ◌∙◌, ap, subst, sym}
use Rattle.std.proofs.lemmas.Result.{err_from_is_err_and}
use Rattle.line_plan.specs.declared.plans.Plan.{Plan}
use Rattle.line_tape.specs.Line.{IsLine}
use Rattle.line_moves.proofs.LineFacts.{IsLine-latest}
use Rattle.line_world.specs.declared.replies.Answer.TheVariants as answers
use Rattle.line_world.specs.declared.replies.StepError.TheVariants as errors
use Rattle.line_world.specs.Machine.{Machine}
use Rattle.line_text.proofs.AnswerLemmas.{other_halt}
use Rattle.line_text.proofs.ViewLemmas.{brought_back, judged_does, judged_front, unjudged_does}
use Rattle.line_text.proofs.ViewLemmas.{unjudged_front, whole_text_of}
use Rattle.line_text.proofs.views.put_whole_answer.Goals as goal

pub put_judged-requires : goal.put_judged-requires
put_judged-requires g c =
    subst (λ (p : Plan). IsLine c.args.live.now.kept.history p.line) (sym c.deref.ensures)
    (IsLine-latest c.args.live.now.kept.history c.args.live.now.kept.marks c.args.failed.now
    c.in-Ok.plan.value.line (rw c.kept-world.ensures at c.in-Ok.ensures.plan).planned.latest)

pub returns-in_ok-put_judged-in-Ok-clause-ok : goal.returns-in_ok-put_judged-in-Ok-clause-ok
returns-in_ok-put_judged-in-Ok-clause-ok g c =
    judged_does _ _ c.in-Ok.plan.value _ _ _ _ _ (rw c.kept-world.ensures at c.in-Ok.ensures.plan)
    (whole_text_of c.args.live.now c.args.failed.now c.in-Ok.plan.value _ _ _ (c.marks.ensures ∙ ap
    (λ (m : Machine). m.marks) c.kept-world.ensures) (ap (λ (p : Plan). p.line) c.deref.ensures)
    (c.as_slice.ensures.value ∙ ap (λ (p : Plan). p.certificate.items) c.deref-in-Ok.ensures))
    c.in_ok-put_judged-in-Ok.ensures.ok

pub returns-in_err-put_judged-in-Ok-clause-memory :
    goal.returns-in_err-put_judged-in-Ok-clause-memory
returns-in_err-put_judged-in-Ok-clause-memory g c =
    let passed_on = err_from_is_err_and c.from_residual.result c.from_residual.ensures.1 in
    rw (passed_on.1, passed_on.2) (λ same. absurd (other_halt same))

pub returns-in_err-put_judged-in-Ok-clause-write : goal.returns-in_err-put_judged-in-Ok-clause-write
returns-in_err-put_judged-in-Ok-clause-write g c =
    let passed_on = err_from_is_err_and c.from_residual.result c.from_residual.ensures.1 in
    rw passed_on.1
    (λ same. judged_front _ _ c.in-Ok.plan.value _ _ _ _
    (rw c.kept-world.ensures at c.in-Ok.ensures.plan)
    (whole_text_of c.args.live.now c.args.failed.now c.in-Ok.plan.value _ _ _ (c.marks.ensures ∙ ap
    (λ (m : Machine). m.marks) c.kept-world.ensures) (ap (λ (p : Plan). p.line) c.deref.ensures)
    (c.as_slice.ensures.value ∙ ap (λ (p : Plan). p.certificate.items) c.deref-in-Ok.ensures))
    c.in_err-put_judged-in-Ok.ensures.err)

pub returns-in_err-put_judged-in-Ok-clause-failed :
    goal.returns-in_err-put_judged-in-Ok-clause-failed
returns-in_err-put_judged-in-Ok-clause-failed g c =
    let passed_on = err_from_is_err_and c.from_residual.result c.from_residual.ensures.1 in
    rw passed_on.1 (λ same. c.in_err-put_judged-in-Ok.ensures.failed)

pub returns-in_ok-put_refusal-in-Err-clause-ok : goal.returns-in_ok-put_refusal-in-Err-clause-ok
returns-in_ok-put_refusal-in-Err-clause-ok g c =
    let differs : c.in-Err.error ≢ errors.OutOfMemory = search rules in
    unjudged_does _ _ c.in-Err.error _ _ _ _ _
    (brought_back c.args.live.now c.args.failed.now (answers.Refused c.in-Err.error)
    (rw c.kept-world.ensures at c.in-Err.ensures.refused differs)) c.code.ensures
    c.in_ok-put_refusal-in-Err.ensures.ok

pub returns-in_err-put_refusal-in-Err-clause-memory :
    goal.returns-in_err-put_refusal-in-Err-clause-memory
returns-in_err-put_refusal-in-Err-clause-memory g c =
    let passed_on = err_from_is_err_and c.from_residual-in_err-put_refusal-in-Err.result
    c.from_residual-in_err-put_refusal-in-Err.ensures.1 in
    rw (passed_on.1, passed_on.2) (λ same. absurd (other_halt same))

pub returns-in_err-put_refusal-in-Err-clause-write :
    goal.returns-in_err-put_refusal-in-Err-clause-write
returns-in_err-put_refusal-in-Err-clause-write g c =
    let passed_on = err_from_is_err_and c.from_residual-in_err-put_refusal-in-Err.result
    c.from_residual-in_err-put_refusal-in-Err.ensures.1 in
    let differs : c.in-Err.error ≢ errors.OutOfMemory = search rules in
    rw passed_on.1
    (λ same. unjudged_front _ _ c.in-Err.error _ _ _ _
    (brought_back c.args.live.now c.args.failed.now (answers.Refused c.in-Err.error)
    (rw c.kept-world.ensures at c.in-Err.ensures.refused differs)) c.code.ensures
    c.in_err-put_refusal-in-Err.ensures.err)

pub returns-in_err-put_refusal-in-Err-clause-failed :
    goal.returns-in_err-put_refusal-in-Err-clause-failed
returns-in_err-put_refusal-in-Err-clause-failed g c =
    let passed_on = err_from_is_err_and c.from_residual-in_err-put_refusal-in-Err.result
    c.from_residual-in_err-put_refusal-in-Err.ensures.1 in
    rw passed_on.1 (λ same. c.in_err-put_refusal-in-Err.ensures.failed)
