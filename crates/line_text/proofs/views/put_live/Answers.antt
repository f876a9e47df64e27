use Rattle.std.proofs.Common.{List, length, ap, ◌∙◌, subst}
use Rattle.std.proofs.lemmas.Result.{IfErr-weaker, IfOk-weaker}
use Rattle.line_tape.specs.History.{Process}
use Rattle.line_world.specs.Machine.{Machine}
use Rattle.line_text.specs.Answers.{IsEverybody}
use Rattle.line_text.proofs.ViewLemmas.{live_does, live_front}
use Rattle.line_text.proofs.views.put_live.Goals as goal

pub returns-clause-ok : goal.returns-clause-ok
returns-clause-ok g c =
    let all : IsEverybody (length c.args.live.now.kept.history) c.everybody-failed.result =
    subst (λ n. IsEverybody n c.everybody-failed.result)
    (c.n.ensures.value ∙ ap (λ (h : List Process). length h) c.history.ensures.value ∙ ap
    (λ (m : Machine). length m.history) c.kept.ensures) c.everybody-failed.ensures in
    IfOk-weaker c.put_plan.result _ _ (λ refused h. live_does _ c.everybody-failed.result _ _ _ _
    refused all h) c.put_plan.ensures.ok

pub returns-clause-write : goal.returns-clause-write
returns-clause-write g c =
    let all : IsEverybody (length c.args.live.now.kept.history) c.everybody-failed.result =
    subst (λ n. IsEverybody n c.everybody-failed.result)
    (c.n.ensures.value ∙ ap (λ (h : List Process). length h) c.history.ensures.value ∙ ap
    (λ (m : Machine). length m.history) c.kept.ensures) c.everybody-failed.ensures in
    IfErr-weaker c.put_plan.result _ _ (λ halt h same. live_front _ c.everybody-failed.result _ _ _
    all (h same)) c.put_plan.ensures.write
