use Rattle.std.proofs.Common.{rules, ◌≢◌, List, length, refl, ap, ◌∙◌}
use Rattle.std.proofs.lemmas.Result.{IfErr-weaker, err_from_is_err_and}
use Rattle.line_tape.specs.History.{Process}
use Rattle.line_world.specs.Machine.{Machine}
use Rattle.line_world.specs.declared.replies.StepError.TheVariants as errors
use Rattle.line_text.proofs.AnswerLemmas.{other_halt, refusal_does, refusal_front, reply_does}
use Rattle.line_text.proofs.AnswerLemmas.{reply_front, rounds_does, rounds_front, shown_does}
use Rattle.line_text.proofs.AnswerLemmas.{shown_front, told_does, told_front}
use Rattle.line_text.proofs.ListingLemmas.{rounds_long}
use Rattle.line_text.proofs.commands.do_command.Goals as goal

pub returns-in_ok-put_refusal-in-Refused-clause-ok :
    goal.returns-in_ok-put_refusal-in-Refused-clause-ok
returns-in_ok-put_refusal-in-Refused-clause-ok g c =
    rw c.in-Refused.is (told_does _ _ _ _ _ _ c.in_ok-put_refusal-in-Refused.ensures.ok)

pub returns-in_err-put_refusal-in-Refused-clause-memory :
    goal.returns-in_err-put_refusal-in-Refused-clause-memory
returns-in_err-put_refusal-in-Refused-clause-memory g c =
    let passed_on = err_from_is_err_and c.from_residual.result c.from_residual.ensures.1 in
    rw (passed_on.1, passed_on.2) (λ same. absurd (other_halt same))

pub returns-in_err-put_refusal-in-Refused-clause-write :
    goal.returns-in_err-put_refusal-in-Refused-clause-write
returns-in_err-put_refusal-in-Refused-clause-write g c =
    let passed_on = err_from_is_err_and c.from_residual.result c.from_residual.ensures.1 in
    rw passed_on.1 (λ same. rw c.in-Refused.is
    (told_front _ _ _ _ _ c.in_err-put_refusal-in-Refused.ensures.err))

pub returns-in_err-put_refusal-in-Refused-clause-failed :
    goal.returns-in_err-put_refusal-in-Refused-clause-failed
returns-in_err-put_refusal-in-Refused-clause-failed g c =
    let passed_on = err_from_is_err_and c.from_residual.result c.from_residual.ensures.1 in
    rw passed_on.1 (λ same. c.in_err-put_refusal-in-Refused.ensures.failed)

pub returns-in_ok-put_rounds-in-Rounds-clause-ok : goal.returns-in_ok-put_rounds-in-Rounds-clause-ok
returns-in_ok-put_rounds-in-Rounds-clause-ok g c = rw c.in-Rounds.is
    (rounds_does _ _ _ _ _ _ _ _ c.floor.ensures.value
    (c.n.ensures.value ∙ ap (λ (h : List Process). length h) c.history.ensures.value ∙ ap
    (λ (m : Machine). length m.history) c.kept-world.ensures) (c.rounds.ensures.value ∙ ap
    (λ (m : Machine). m.rounds) c.kept-world.ensures) c.in_ok-put_rounds-in-Rounds.ensures.ok)

pub returns-in_err-put_rounds-in-Rounds-clause-memory :
    goal.returns-in_err-put_rounds-in-Rounds-clause-memory
returns-in_err-put_rounds-in-Rounds-clause-memory g c =
    let passed_on = err_from_is_err_and c.from_residual-in_err-put_rounds-in-Rounds.result
    c.from_residual-in_err-put_rounds-in-Rounds.ensures.1 in
    rw (passed_on.1, passed_on.2) (λ same. absurd (other_halt same))

pub returns-in_err-put_rounds-in-Rounds-clause-write :
    goal.returns-in_err-put_rounds-in-Rounds-clause-write
returns-in_err-put_rounds-in-Rounds-clause-write g c =
    let passed_on = err_from_is_err_and c.from_residual-in_err-put_rounds-in-Rounds.result
    c.from_residual-in_err-put_rounds-in-Rounds.ensures.1 in
    rw passed_on.1
    (λ same. rw c.in-Rounds.is
    (rounds_front _ _ _ _ _ _ _ c.floor.ensures.value
    (c.n.ensures.value ∙ ap (λ (h : List Process). length h) c.history.ensures.value ∙ ap
    (λ (m : Machine). length m.history) c.kept-world.ensures) (c.rounds.ensures.value ∙ ap (λ
    (m : Machine). m.rounds) c.kept-world.ensures) c.in_err-put_rounds-in-Rounds.ensures.err))

pub returns-in_err-put_rounds-in-Rounds-clause-failed :
    goal.returns-in_err-put_rounds-in-Rounds-clause-failed
returns-in_err-put_rounds-in-Rounds-clause-failed g c =
    let passed_on = err_from_is_err_and c.from_residual-in_err-put_rounds-in-Rounds.result
    c.from_residual-in_err-put_rounds-in-Rounds.ensures.1 in
    rw passed_on.1 (λ same. c.in_err-put_rounds-in-Rounds.ensures.failed)

pub returns-in_ok-put_shown-in-History-clause-ok : goal.returns-in_ok-put_shown-in-History-clause-ok
returns-in_ok-put_shown-in-History-clause-ok g c =
    rw c.in-History.is (shown_does _ _ _ _ _ c.in_ok-put_shown-in-History.ensures.ok)

pub returns-in_err-put_shown-in-History-clause-memory :
    goal.returns-in_err-put_shown-in-History-clause-memory
returns-in_err-put_shown-in-History-clause-memory g c =
    let passed_on = err_from_is_err_and c.from_residual-in_err-put_shown-in-History.result
    c.from_residual-in_err-put_shown-in-History.ensures.1 in
    rw (passed_on.1, passed_on.2) (λ same. absurd (other_halt same))

pub returns-in_err-put_shown-in-History-clause-write :
    goal.returns-in_err-put_shown-in-History-clause-write
returns-in_err-put_shown-in-History-clause-write g c =
    let passed_on = err_from_is_err_and c.from_residual-in_err-put_shown-in-History.result
    c.from_residual-in_err-put_shown-in-History.ensures.1 in
    rw passed_on.1
    (λ same. rw c.in-History.is (shown_front _ _ _ _ c.in_err-put_shown-in-History.ensures.err))

pub returns-in_err-put_shown-in-History-clause-failed :
    goal.returns-in_err-put_shown-in-History-clause-failed
returns-in_err-put_shown-in-History-clause-failed g c =
    let passed_on = err_from_is_err_and c.from_residual-in_err-put_shown-in-History.result
    c.from_residual-in_err-put_shown-in-History.ensures.1 in
    rw passed_on.1 (λ same. c.in_err-put_shown-in-History.ensures.failed)

pub returns-in-Bundle-clause-ok : goal.returns-in-Bundle-clause-ok
returns-in-Bundle-clause-ok g c = rw c.in-Bundle.is c.bundle.ensures.ok

pub returns-in-Bundle-clause-memory : goal.returns-in-Bundle-clause-memory
returns-in-Bundle-clause-memory g c = IfErr-weaker c.bundle.result _ _
    (λ halt h same. (refl, (h same).0, (h same).1)) c.bundle.ensures.memory

pub returns-in-Bundle-clause-write : goal.returns-in-Bundle-clause-write
returns-in-Bundle-clause-write g c = rw c.in-Bundle.is c.bundle.ensures.write

pub put_rounds-requires-clause-checks : goal.put_rounds-requires-clause-checks
put_rounds-requires-clause-checks g c = rw (
  c.rounds.ensures.value,
  c.n.ensures.value,
  c.history.ensures.value,
) (rounds_long _ _ c.rounds.ensures.snapshots)

pub returns-in-Plan-clause-ok : goal.returns-in-Plan-clause-ok
returns-in-Plan-clause-ok g c = rw c.in-Plan.is c.put_plan.ensures.ok

pub returns-in-Plan-clause-memory : goal.returns-in-Plan-clause-memory
returns-in-Plan-clause-memory g c = IfErr-weaker c.put_plan.result _ _
    (λ halt h same. (refl, (h same).0, (h same).1)) c.put_plan.ensures.memory

pub returns-in-Plan-clause-write : goal.returns-in-Plan-clause-write
returns-in-Plan-clause-write g c = rw c.in-Plan.is c.put_plan.ensures.write

pub returns-in-Live-clause-ok : goal.returns-in-Live-clause-ok
returns-in-Live-clause-ok g c = rw c.in-Live.is c.put_live.ensures.ok

pub returns-in-Live-clause-memory : goal.returns-in-Live-clause-memory
returns-in-Live-clause-memory g c = IfErr-weaker c.put_live.result _ _
    (λ halt h same. (refl, (h same).0, (h same).1)) c.put_live.ensures.memory

pub returns-in-Live-clause-write : goal.returns-in-Live-clause-write
returns-in-Live-clause-write g c = rw c.in-Live.is c.put_live.ensures.write

pub returns-in-Answer-clause-ok : goal.returns-in-Answer-clause-ok
returns-in-Answer-clause-ok g c = rw c.in-Answer.is c.put_whole_answer.ensures.ok

pub returns-in-Answer-clause-memory : goal.returns-in-Answer-clause-memory
returns-in-Answer-clause-memory g c = IfErr-weaker c.put_whole_answer.result _ _
    (λ halt h same. (refl, (h same).0, (h same).1)) c.put_whole_answer.ensures.memory

pub returns-in-Answer-clause-write : goal.returns-in-Answer-clause-write
returns-in-Answer-clause-write g c = rw c.in-Answer.is c.put_whole_answer.ensures.write

pub returns-in-Forget-clause-ok : goal.returns-in-Forget-clause-ok
returns-in-Forget-clause-ok g c = rw c.in-Forget.is c.put_forgot.ensures.ok

pub returns-in-Forget-clause-write : goal.returns-in-Forget-clause-write
returns-in-Forget-clause-write g c = rw c.in-Forget.is c.put_forgot.ensures.write

pub returns-in-Save-clause-ok : goal.returns-in-Save-clause-ok
returns-in-Save-clause-ok g c = rw c.in-Save.is c.put_saved_machine.ensures.ok

pub returns-in-Save-clause-memory : goal.returns-in-Save-clause-memory
returns-in-Save-clause-memory g c = IfErr-weaker c.put_saved_machine.result _ _
    (λ halt h same. (refl, (h same).0, (h same).1)) c.put_saved_machine.ensures.memory

pub returns-in-Save-clause-write : goal.returns-in-Save-clause-write
returns-in-Save-clause-write g c = rw c.in-Save.is c.put_saved_machine.ensures.write
