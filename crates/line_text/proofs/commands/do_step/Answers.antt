use Rattle.std.proofs.Common.{rules, ◌≢◌}
use Rattle.std.proofs.lemmas.Result.{err_from_is_err_and}
use Rattle.line_world.specs.declared.replies.StepError.TheVariants as errors
use Rattle.line_text.proofs.AnswerLemmas.{refusal_does, refusal_front, reply_does, reply_front}
use Rattle.line_text.proofs.commands.do_step.Goals as goal

pub returns-in_err-put_reply-in-Ok-clause-write : goal.returns-in_err-put_reply-in-Ok-clause-write
returns-in_err-put_reply-in-Ok-clause-write g c =
    let passed_on = err_from_is_err_and c.from_residual.result c.from_residual.ensures.1 in
    rw passed_on.1 (λ same. reply_front _ _ _ _ _ _ _
    (rw c.in-Ok.is at c.step_lent-told.ensures.done) c.in_err-put_reply-in-Ok.ensures.err)

pub returns-in-Ok-clause-ok : goal.returns-in-Ok-clause-ok
returns-in-Ok-clause-ok g c = reply_does _ _ _ _ _ _ _ _
    (rw c.in-Ok.is at c.step_lent-told.ensures.done) c.in_ok-put_reply-in-Ok.ensures.ok

pub returns-in_err-put_refusal-in-Err-clause-write :
    goal.returns-in_err-put_refusal-in-Err-clause-write
returns-in_err-put_refusal-in-Err-clause-write g c =
    let passed_on = err_from_is_err_and c.from_residual-in_err-put_refusal-in-Err.result
    c.from_residual-in_err-put_refusal-in-Err.ensures.1 in
    let differs : c.in-Err.error ≢ errors.OutOfMemory = search rules in
    rw passed_on.1
    (λ same. refusal_front _ _ _ _ _ _ _ _ ((rw c.in-Err.is at c.step_lent-told.ensures.refused)
    differs) c.code.ensures c.in_err-put_refusal-in-Err.ensures.err)

pub returns-clause-ok : goal.returns-clause-ok
returns-clause-ok g c =
    let differs : c.in-Err.error ≢ errors.OutOfMemory = search rules in
    refusal_does _ _ _ _ _ _ _ _ _ ((rw c.in-Err.is at c.step_lent-told.ensures.refused) differs)
    c.code.ensures c.in_ok-put_refusal-in-Err.ensures.ok
