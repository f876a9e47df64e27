use Rattle.std.proofs.Common.{rules, ◌≢◌, refl}
use Rattle.std.proofs.lemmas.Result.{err_from_is_err_and}
use Rattle.line_live.specs.declared.refusals.ForgetError.TheVariants as forgets
use Rattle.line_text.proofs.AnswerLemmas.{other_halt}
use Rattle.line_text.proofs.ForgetLemmas.{forgot_does, forgot_front, kept_does, kept_front}
use Rattle.line_text.proofs.forgets.put_forgot.Goals as goal

pub returns-in_ok-put_floor_told-in-Ok-clause-ok : goal.returns-in_ok-put_floor_told-in-Ok-clause-ok
returns-in_ok-put_floor_told-in-Ok-clause-ok g c =
    forgot_does _ _ _ _ _ _ _ (c.in-Ok.ensures.done refl) c.in_ok-put_floor_told-in-Ok.ensures.ok

pub returns-in_err-put_floor_told-in-Ok-clause-memory :
    goal.returns-in_err-put_floor_told-in-Ok-clause-memory
returns-in_err-put_floor_told-in-Ok-clause-memory g c =
    let passed_on = err_from_is_err_and c.from_residual.result c.from_residual.ensures.1 in
    rw (passed_on.1, passed_on.2) (λ same. absurd (other_halt same))

pub returns-in_err-put_floor_told-in-Ok-clause-write :
    goal.returns-in_err-put_floor_told-in-Ok-clause-write
returns-in_err-put_floor_told-in-Ok-clause-write g c =
    let passed_on = err_from_is_err_and c.from_residual.result c.from_residual.ensures.1 in
    rw passed_on.1 (λ same. forgot_front _ _ _ _ _ _
    (c.in-Ok.ensures.done refl) c.in_err-put_floor_told-in-Ok.ensures.err)

pub returns-in_err-put_floor_told-in-Ok-clause-failed :
    goal.returns-in_err-put_floor_told-in-Ok-clause-failed
returns-in_err-put_floor_told-in-Ok-clause-failed g c =
    let passed_on = err_from_is_err_and c.from_residual.result c.from_residual.ensures.1 in
    rw passed_on.1 (λ same. c.in_err-put_floor_told-in-Ok.ensures.failed)

pub returns-in_ok-put_refusal-in-Err-clause-ok : goal.returns-in_ok-put_refusal-in-Err-clause-ok
returns-in_ok-put_refusal-in-Err-clause-ok g c =
    let differs : c.in-Err.error ≢ forgets.OutOfMemory = search rules in
    kept_does _ _ _ c.in-Err.error _ _ _ _ _ (c.in-Err.ensures.refused differs)
    c.in-Err.ensures.same c.refusal_number.ensures c.in_ok-put_refusal-in-Err.ensures.ok

pub returns-in_err-put_refusal-in-Err-clause-memory :
    goal.returns-in_err-put_refusal-in-Err-clause-memory
returns-in_err-put_refusal-in-Err-clause-memory g c =
    let passed_on = err_from_is_err_and c.from_residual-in_err-put_refusal-in-Err.result
    c.from_residual-in_err-put_refusal-in-Err.ensures.1 in
    rw (passed_on.1, passed_on.2) (λ same. absurd (other_halt same))

pub returns-in_err-put_refusal-in-Err-clause-write :
    goal.returns-in_err-put_refusal-in-Err-clause-write
returns-in_err-put_refusal-in-Err-clause-write g c =
    let passed_on = err_from_is_err_and c.from_residual-in_err-put_refusal-in-Err.result
    c.from_residual-in_err-put_refusal-in-Err.ensures.1 in
    let differs : c.in-Err.error ≢ forgets.OutOfMemory = search rules in
    rw passed_on.1
    (λ same. kept_front _ _ _ c.in-Err.error _ _ _ _ (c.in-Err.ensures.refused differs)
    c.in-Err.ensures.same c.refusal_number.ensures c.in_err-put_refusal-in-Err.ensures.err)

pub returns-in_err-put_refusal-in-Err-clause-failed :
    goal.returns-in_err-put_refusal-in-Err-clause-failed
returns-in_err-put_refusal-in-Err-clause-failed g c =
    let passed_on = err_from_is_err_and c.from_residual-in_err-put_refusal-in-Err.result
    c.from_residual-in_err-put_refusal-in-Err.ensures.1 in
    rw passed_on.1 (λ same. c.in_err-put_refusal-in-Err.ensures.failed)
