use Rattle.std.proofs.lemmas.Result.{on_err_weaker, on_ok_weaker}
use Rattle.line_text.proofs.AllowedLemmas.{last_of}
use Rattle.line_text.proofs.ByteLemmas.{other_answers, other_front}
use Rattle.line_text.proofs.hearings.hear_end.Goals as goal

pub returns-in-Some-clause-ok : goal.returns-in-Some-clause-ok
returns-in-Some-clause-ok g c = on_ok_weaker c.answer_bare_line.result
    (λ h. other_answers _ _ _ _ _ _ _
    (last_of _ _ c.in-Some.ensures.some c.in-Some.ensures.whole) h) c.answer_bare_line.ensures.ok

pub returns-in-Some-clause-err : goal.returns-in-Some-clause-err
returns-in-Some-clause-err g c = on_err_weaker c.answer_bare_line.result
    (λ h. other_front _ _ _ _ _ _ _ (last_of _ _ c.in-Some.ensures.some c.in-Some.ensures.whole) h)
    c.answer_bare_line.ensures.err
