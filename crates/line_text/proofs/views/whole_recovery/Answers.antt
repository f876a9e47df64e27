-- What is kept may answer so, and a plan of it is brought back.
use Rattle.std.proofs.Common.{◌≡◌, ◌∙◌, ap, subst}
use Rattle.std.proofs.lemmas.Result.{err_from_is_err_and}
use Rattle.line_live.specs.CutMachines.{whole_plan}
use Rattle.line_tape.specs.declared.steps.Step.TheVariants.{Recover}
use Rattle.line_world.specs.declared.replies.Answer.{Answer}
use Rattle.line_world.specs.declared.replies.Answer.TheVariants as answers
use Rattle.line_world.specs.declared.replies.Reply.TheVariants.{Recovered}
use Rattle.line_world.specs.Machine.{Machine}
use Rattle.line_text.specs.Answers.{MayAnswer}
use Rattle.line_text.proofs.ViewLemmas.{brought_back}
use Rattle.line_text.proofs.views.whole_recovery.Goals as goal

pub returns-in_err-told-clause-refused : goal.returns-in_err-told-clause-refused
returns-in_err-told-clause-refused c =
    let passed_on = err_from_is_err_and c.from_residual.result c.from_residual.ensures.1 in
    rw (passed_on.1, passed_on.2)
    (λ other. brought_back c.args.live.now c.args.failed.now
    (answers.Refused c.in_err-told.field-0.0)
    (subst (λ (machine : Machine). MayAnswer machine (Recover c.args.failed.now) (answers.Refused
    c.in_err-told.field-0.0)) c.kept.ensures (c.in_err-told.ensures.refused other)))

pub returns-clause-done : goal.returns-clause-done
returns-clause-done c =
    let told : Answer = answers.Done (Recovered c.in_ok-told.told.plan c.in_ok-told.told.states
    c.in_ok-told.told.incarnations) in
    let value : c.bring_back.new.plan
    ≡ whole_plan c.args.live.now.floor c.in_ok-told.told.plan.value =
    c.bring_back.ensures ∙ ap (whole_plan c.args.live.now.floor) c.deref_mut.ensures.value in
    rw value (brought_back c.args.live.now c.args.failed.now told
    (subst (λ (machine : Machine). MayAnswer machine (Recover c.args.failed.now) told)
    c.kept.ensures c.in_ok-told.ensures.done))
