use Rattle.std.proofs.Common.{ap, ◌∙◌}
use Rattle.std.proofs.lemmas.Result.{err_from_is_err_and, on_err_weaker, on_ok_weaker}
use Rattle.line_devices.specs.Devices.{one_more}
use Rattle.line_devices.proofs.PutLemmas.{puts_front_of_held}
use Rattle.line_text.proofs.JudgeLemmas.{puts_end}
use Rattle.line_text.proofs.judgings.tell_verdict.Goals as goal

pub returns-in_err-put_verdict-clause-err : goal.returns-in_err-put_verdict-clause-err
returns-in_err-put_verdict-clause-err g c =
    let passed_on = err_from_is_err_and c.from_residual.result c.from_residual.ensures.1 in
    rw passed_on.1 (rw c.requires at c.in_err-put_verdict.ensures.err)

pub returns-in_err-put_verdict-clause-failed : goal.returns-in_err-put_verdict-clause-failed
returns-in_err-put_verdict-clause-failed g c =
    let passed_on = err_from_is_err_and c.from_residual.result c.from_residual.ensures.1 in
    rw passed_on.1 c.in_err-put_verdict.ensures.failed

pub returns-clause-ok : goal.returns-clause-ok
returns-clause-ok g c =
    let held = rw c.requires at c.in_ok-put_verdict.ensures.ok in
    on_ok_weaker c.put.result
    (λ end. puts_end _ _ _ _ _ held (rw c.text.ensures at end)) c.put.ensures.ok

pub returns-clause-err : goal.returns-clause-err
returns-clause-err g c =
    let held = rw c.requires at c.in_ok-put_verdict.ensures.ok in
    on_err_weaker c.put.result
    (λ end. puts_front_of_held _ _ _ _ _ held (rw c.text.ensures at end)) c.put.ensures.err

pub returns-clause-sound : goal.returns-clause-sound
returns-clause-sound g c =
    on_ok_weaker c.put.result (λ same. same ∙ c.in_ok-put_verdict.ensures.sound) c.put.ensures.sound

pub returns-clause-failed : goal.returns-clause-failed
returns-clause-failed g c = on_err_weaker c.put.result
    (λ more. more ∙ ap one_more c.in_ok-put_verdict.ensures.sound) c.put.ensures.failed
