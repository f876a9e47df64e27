use Rattle.std.proofs.Common.{inl, inr}
use Rattle.std.proofs.lemmas.Result.{IfErr-weaker, IfOk-weaker}
use Rattle.line_service.proofs.FileLemmas.{opened_of, unopened_of}
use Rattle.line_service.proofs.files.open_saved_text.Goals as goal

pub returns-in-Ok-clause-ok : goal.returns-in-Ok-clause-ok
returns-in-Ok-clause-ok g c =
    let done = c.in-Ok.ensures.done in
    IfOk-weaker c.open_read.result _ _ (λ live is. (
      done.0,
      done.1,
      is.0,
      opened_of _ c.in-Ok.read
          is.0 done.2 is.1,
      is.2,
    )) c.open_read.ensures.ok

pub returns-in-Ok-clause-err : goal.returns-in-Ok-clause-err
returns-in-Ok-clause-err g c =
    let done = c.in-Ok.ensures.done in
    IfErr-weaker c.open_read.result _ _
    (λ fault told. elim (unopened_of _ c.in-Ok.read fault done.2 told) [
      | inl none ↦ inl none
      | inr unopened ↦ inr (inr (done.0, done.1, unopened))
    ]) c.open_read.ensures.err
