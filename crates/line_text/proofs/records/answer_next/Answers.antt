use Rattle.std.proofs.lemmas.Result.{err_from_is_err_and}
use Rattle.line_text.proofs.ByteLemmas.{first_front, other_answers, other_front}
use Rattle.line_text.proofs.HeardLemmas.{none_answered}
use Rattle.line_text.proofs.PlainLemmas.{no_feed_whole, row_is}
use Rattle.line_text.proofs.records.answer_next.Goals as goal

pub returns-then-end-bytes-clause-ok : goal.returns-then-end-bytes-clause-ok
returns-then-end-bytes-clause-ok g c =
    (no_feed_whole _ _ c.in-Ok.ensures.line c.if-end-bytes.true, none_answered _ _ _)

pub returns-in_err-answer_row-clause-err : goal.returns-in_err-answer_row-clause-err
returns-in_err-answer_row-clause-err g c =
    let passed_on = err_from_is_err_and c.from_residual.result c.from_residual.ensures.1 in
    rw passed_on.1
    (first_front _ _ _ _ _ _ _ _ c.feed_after-at.ensures.feed
    (other_front _ _ _ _ _ _ _
    (row_is _ _ _ _ c.feed_after-at.ensures.feed c.in-Ok.ensures.line.within
    c.feed_after-at.ensures.allowed c.feed_after-at.ensures.bare c.in-Ok.ensures.ok)
    c.in_err-answer_row.ensures.err))

pub returns-in-Ok-clause-ok : goal.returns-in-Ok-clause-ok
returns-in-Ok-clause-ok g c = (
  c.feed_after-at.ensures.feed,
  other_answers _ _ _ _ _ _ _
      (row_is _ _ _ _ c.feed_after-at.ensures.feed c.in-Ok.ensures.line.within
      c.feed_after-at.ensures.allowed c.feed_after-at.ensures.bare c.in-Ok.ensures.ok)
      c.in_ok-answer_row.ensures.ok,
)

pub returns-in_err-answer_whole-in-Some-clause-err :
    goal.returns-in_err-answer_whole-in-Some-clause-err
returns-in_err-answer_whole-in-Some-clause-err g c =
    let passed_on = err_from_is_err_and c.from_residual-in_err-answer_whole-in-Some.result
    c.from_residual-in_err-answer_whole-in-Some.ensures.1 in
    rw passed_on.1 (first_front _ _ _ _ _ _ _ _ c.in-Some.ensures.some
    c.in_err-answer_whole-in-Some.ensures.err)
