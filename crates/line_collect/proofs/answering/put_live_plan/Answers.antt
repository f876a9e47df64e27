use Rattle.std.proofs.Common.{List, length, ap, ◌∙◌, subst}
use Rattle.line_text.specs.Answers.{IsEverybody}
use Rattle.line_collect.specs.Collections.{CollectionView}
use Rattle.line_tape.specs.History.{Process}
use Rattle.line_collect.proofs.AnswerLemmas.{live_does}
use Rattle.line_collect.proofs.answering.put_live_plan.Goals as goal

pub returns : goal.returns
returns g c =
    let all : IsEverybody (length c.args.live.now.kept.history) c.everybody-failed.result =
    subst (λ n. IsEverybody n c.everybody-failed.result)
    (c.n.ensures.value ∙ ap (λ (h : List Process). length h) c.history.ensures.value ∙ ap
    (λ (k : CollectionView). length k.history) c.kept.ensures) c.everybody-failed.ensures in
    live_does c.args.live.now c.everybody-failed.result all _ _ _ _ _ _ c.put_plan_for.result
    c.put_plan_for.ensures
