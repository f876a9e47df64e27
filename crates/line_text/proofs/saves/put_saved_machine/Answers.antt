use Rattle.std.proofs.Common.{sym}
use Rattle.std.proofs.lemmas.Result.{err_from_is_err_and}
use Rattle.line_text.proofs.AnswerLemmas.{other_halt}
use Rattle.line_text.proofs.SaveLemmas.{machine_does, machine_front, unsaved_does, unsaved_front}
use Rattle.line_text.proofs.saves.put_saved_machine.Goals as goal

pub returns-in_ok-put_saved-in-None-clause-ok : goal.returns-in_ok-put_saved-in-None-clause-ok
returns-in_ok-put_saved-in-None-clause-ok g c =
    machine_does _ _ _ _ _ (sym c.in-None.ensures) c.in_ok-put_saved-in-None.ensures.ok

pub returns-in_err-put_saved-in-None-clause-memory :
    goal.returns-in_err-put_saved-in-None-clause-memory
returns-in_err-put_saved-in-None-clause-memory g c =
    let passed_on = err_from_is_err_and c.from_residual.result c.from_residual.ensures.1 in
    rw (passed_on.1, passed_on.2) (λ same. absurd (other_halt same))

pub returns-in_err-put_saved-in-None-clause-write :
    goal.returns-in_err-put_saved-in-None-clause-write
returns-in_err-put_saved-in-None-clause-write g c =
    let passed_on = err_from_is_err_and c.from_residual.result c.from_residual.ensures.1 in
    rw passed_on.1 (λ same. machine_front _ _ _ _
    (sym c.in-None.ensures) c.in_err-put_saved-in-None.ensures.err)

pub returns-in_err-put_saved-in-None-clause-failed :
    goal.returns-in_err-put_saved-in-None-clause-failed
returns-in_err-put_saved-in-None-clause-failed g c =
    let passed_on = err_from_is_err_and c.from_residual.result c.from_residual.ensures.1 in
    rw passed_on.1 (λ same. c.in_err-put_saved-in-None.ensures.failed)

pub returns-in_ok-put_refusal-in-Some-clause-ok : goal.returns-in_ok-put_refusal-in-Some-clause-ok
returns-in_ok-put_refusal-in-Some-clause-ok g c = unsaved_does _ c.in-Some.error _ _ _ _ _
    (sym c.in-Some.ensures) c.refusal_number.ensures c.in_ok-put_refusal-in-Some.ensures.ok

pub returns-in_err-put_refusal-in-Some-clause-memory :
    goal.returns-in_err-put_refusal-in-Some-clause-memory
returns-in_err-put_refusal-in-Some-clause-memory g c =
    let passed_on = err_from_is_err_and c.from_residual-in_err-put_refusal-in-Some.result
    c.from_residual-in_err-put_refusal-in-Some.ensures.1 in
    rw (passed_on.1, passed_on.2) (λ same. absurd (other_halt same))

pub returns-in_err-put_refusal-in-Some-clause-write :
    goal.returns-in_err-put_refusal-in-Some-clause-write
returns-in_err-put_refusal-in-Some-clause-write g c =
    let passed_on = err_from_is_err_and c.from_residual-in_err-put_refusal-in-Some.result
    c.from_residual-in_err-put_refusal-in-Some.ensures.1 in
    rw passed_on.1 (λ same. unsaved_front _ c.in-Some.error _ _ _ _
    (sym c.in-Some.ensures) c.refusal_number.ensures c.in_err-put_refusal-in-Some.ensures.err)

pub returns-in_err-put_refusal-in-Some-clause-failed :
    goal.returns-in_err-put_refusal-in-Some-clause-failed
returns-in_err-put_refusal-in-Some-clause-failed g c =
    let passed_on = err_from_is_err_and c.from_residual-in_err-put_refusal-in-Some.result
    c.from_residual-in_err-put_refusal-in-Some.ensures.1 in
    rw passed_on.1 (λ same. c.in_err-put_refusal-in-Some.ensures.failed)
