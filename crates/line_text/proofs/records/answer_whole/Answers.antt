use Rattle.std.proofs.Common.{arith}
use Rattle.std.proofs.lemmas.Result.{on_err_weaker, on_ok_weaker}
use Rattle.line_text.proofs.ByteLemmas.{other_answers, other_front}
use Rattle.line_text.proofs.LineLemmas.{dropped_record, kept_record}
use Rattle.line_text.proofs.records.answer_whole.Goals as goal

pub returns-then-line-gt-MOST_LINE-clause-ok : goal.returns-then-line-gt-MOST_LINE-clause-ok
returns-then-line-gt-MOST_LINE-clause-ok g c =
    on_ok_weaker c.answer_fault.result
    (λ h. other_answers _ _ _ _ _ _ _ (dropped_record _ c.requires (omega arith)) h)
    (c.answer_fault.ensures.ok _ (g.met.C.Answerer.bad_record c.args.seat.now.answerer))

pub returns-then-line-gt-MOST_LINE-clause-err : goal.returns-then-line-gt-MOST_LINE-clause-err
returns-then-line-gt-MOST_LINE-clause-err g c =
    on_err_weaker c.answer_fault.result
    (λ h. other_front _ _ _ _ _ _ _ (dropped_record _ c.requires (omega arith)) h)
    (c.answer_fault.ensures.err _ (g.met.C.Answerer.bad_record c.args.seat.now.answerer))

pub returns-clause-ok : goal.returns-clause-ok
returns-clause-ok g c = on_ok_weaker c.answer_line.result (λ h. other_answers _ _ _ _ _ _ _
    (kept_record _ c.requires (omega arith)) h) c.answer_line.ensures.ok

pub returns-clause-err : goal.returns-clause-err
returns-clause-err g c = on_err_weaker c.answer_line.result (λ h. other_front _ _ _ _ _ _ _
    (kept_record _ c.requires (omega arith)) h) c.answer_line.ensures.err
