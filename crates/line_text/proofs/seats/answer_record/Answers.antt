use Rattle.std.proofs.Common.{refl}
use Rattle.std.proofs.lemmas.Result.{on_err_weaker, on_ok_weaker}
use Rattle.line_text.proofs.RecordLemmas.{ended_answer, front_of_answer}
use Rattle.line_text.proofs.seats.answer_record.Goals as goal

pub returns-in-Ok-clause-ok : goal.returns-in-Ok-clause-ok
returns-in-Ok-clause-ok g c = on_ok_weaker c.close_record.result (λ put. ended_answer _ _ _ _ _ _ _
    _ _ _ c.in-Ok.ensures.ok refl c.worse-seat.ensures put) c.close_record.ensures.ok

pub returns-in-Ok-clause-err : goal.returns-in-Ok-clause-err
returns-in-Ok-clause-err g c = on_err_weaker c.close_record.result
    (λ put. front_of_answer _ _ _ _ _ _ _ _ _ _ c.in-Ok.ensures.ok put) c.close_record.ensures.err
