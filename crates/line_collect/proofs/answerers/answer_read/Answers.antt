use Rattle.line_collect.proofs.AnswerLemmas.{record_done, record_stopped}
use Rattle.line_collect.proofs.answerers.answer_read.Goals as goal

pub returns-in-Ok-clause-ok : goal.returns-in-Ok-clause-ok
returns-in-Ok-clause-ok g c =
    record_done _ _ _ _
    (rw (c.n-n.ensures.value, c.history.ensures.value, c.kept.ensures) at c.in-Ok.ensures.exact)
    _ _ _ _ _ _ c.answer_report.result (rw c.report.ensures at c.answer_report.ensures)

pub returns-in-Ok-clause-err : goal.returns-in-Ok-clause-err
returns-in-Ok-clause-err g c =
    record_stopped _ _ _ _
    (rw (c.n-n.ensures.value, c.history.ensures.value, c.kept.ensures) at c.in-Ok.ensures.exact)
    _ _ _ _ _ _ c.answer_report.result (rw c.report.ensures at c.answer_report.ensures)
