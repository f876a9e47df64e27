use Rattle.std.proofs.Common.{rules, ◌≡◌, ◌≢◌, refl, inl, inr}
use Rattle.std.proofs.lemmas.Result.{err_from_is_err_and}
use Rattle.line_world.specs.declared.replies.StepError.TheVariants as errors
use Rattle.line_text.proofs.AnswerLemmas.{claim_does, claim_front, other_halt, stranger_does}
use Rattle.line_text.proofs.AnswerLemmas.{stranger_front}
use Rattle.line_text.proofs.commands.bundle.Goals as goal

pub returns-in_ok-put_claimed-in-Ok-clause-ok : goal.returns-in_ok-put_claimed-in-Ok-clause-ok
returns-in_ok-put_claimed-in-Ok-clause-ok g c = claim_does _ _ c.in-Ok.plan _ _ _ _
    (λ stranger. let refused =
    (rw c.kept-world.ensures at c.in-Ok.ensures.stranger).1 stranger in cc)
    (rw c.kept-world.ensures at c.in-Ok.ensures.plan) (rw (
      c.marks.ensures,
      c.kept-world.ensures,
      c.as_slice.ensures.value,
    ) at c.in_ok-put_claimed-in-Ok.ensures.ok)

pub returns-in_err-put_claimed-in-Ok-clause-memory :
    goal.returns-in_err-put_claimed-in-Ok-clause-memory
returns-in_err-put_claimed-in-Ok-clause-memory g c =
    let passed_on = err_from_is_err_and c.from_residual.result c.from_residual.ensures.1 in
    rw (passed_on.1, passed_on.2) (λ same. absurd (other_halt same))

pub returns-in_err-put_claimed-in-Ok-clause-write :
    goal.returns-in_err-put_claimed-in-Ok-clause-write
returns-in_err-put_claimed-in-Ok-clause-write g c =
    let passed_on = err_from_is_err_and c.from_residual.result c.from_residual.ensures.1 in
    rw passed_on.1
    (λ same. claim_front _ _ c.in-Ok.plan _ _ _
    (λ stranger. let refused =
    (rw c.kept-world.ensures at c.in-Ok.ensures.stranger).1 stranger in cc)
    (rw c.kept-world.ensures at c.in-Ok.ensures.plan) (rw (
      c.marks.ensures,
      c.kept-world.ensures,
      c.as_slice.ensures.value,
    ) at c.in_err-put_claimed-in-Ok.ensures.err))

pub returns-in_err-put_claimed-in-Ok-clause-failed :
    goal.returns-in_err-put_claimed-in-Ok-clause-failed
returns-in_err-put_claimed-in-Ok-clause-failed g c =
    let passed_on = err_from_is_err_and c.from_residual.result c.from_residual.ensures.1 in
    rw passed_on.1 (λ same. c.in_err-put_claimed-in-Ok.ensures.failed)

pub returns-in_ok-put_refusal-in-Err-clause-ok : goal.returns-in_ok-put_refusal-in-Err-clause-ok
returns-in_ok-put_refusal-in-Err-clause-ok g c = let differs : c.in-Err.error ≢ errors.OutOfMemory =
    search rules in let is : c.in-Err.error
    ≡ errors.NoSuchProcess = elim c.in-Err.ensures.others
    [ inl same ↦ same | inr memory ↦ absurd (differs memory) ] in stranger_does _ _ _ _ _ _ _
    ((rw c.kept-world.ensures at c.in-Err.ensures.stranger).0 (rw is refl)) c.code.ensures
    c.in_ok-put_refusal-in-Err.ensures.ok

pub returns-in_err-put_refusal-in-Err-clause-memory :
    goal.returns-in_err-put_refusal-in-Err-clause-memory
returns-in_err-put_refusal-in-Err-clause-memory g c =
    let passed_on = err_from_is_err_and c.from_residual-in_err-put_refusal-in-Err.result
    c.from_residual-in_err-put_refusal-in-Err.ensures.1 in
    rw (passed_on.1, passed_on.2) (λ same. absurd (other_halt same))

pub returns-in_err-put_refusal-in-Err-clause-write :
    goal.returns-in_err-put_refusal-in-Err-clause-write
returns-in_err-put_refusal-in-Err-clause-write g c =
    let passed_on = err_from_is_err_and c.from_residual-in_err-put_refusal-in-Err.result
    c.from_residual-in_err-put_refusal-in-Err.ensures.1 in
    rw passed_on.1
    (λ same. let differs : c.in-Err.error ≢ errors.OutOfMemory = search rules in let is :
    c.in-Err.error
    ≡ errors.NoSuchProcess = elim c.in-Err.ensures.others
    [ inl same ↦ same | inr memory ↦ absurd (differs memory) ] in stranger_front _ _ _ _ _ _
    ((rw c.kept-world.ensures at c.in-Err.ensures.stranger).0 (rw is refl)) c.code.ensures
    c.in_err-put_refusal-in-Err.ensures.err)

pub returns-in_err-put_refusal-in-Err-clause-failed :
    goal.returns-in_err-put_refusal-in-Err-clause-failed
returns-in_err-put_refusal-in-Err-clause-failed g c =
    let passed_on = err_from_is_err_and c.from_residual-in_err-put_refusal-in-Err.result
    c.from_residual-in_err-put_refusal-in-Err.ensures.1 in
    rw passed_on.1 (λ same. c.in_err-put_refusal-in-Err.ensures.failed)
