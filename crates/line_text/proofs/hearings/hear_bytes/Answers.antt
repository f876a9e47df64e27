use Rattle.std.proofs.Common.{◌+◌, ◌∙◌, List, [], ℕ, ap, sym}
use Rattle.std.proofs.lemmas.Result.{err_from_is_err_and}
use Rattle.line_devices.proofs.PutLemmas.{slice_from}
use Rattle.line_text.specs.Lines.{Kept, pending_after}
use Rattle.line_text.proofs.ByteLemmas.{bytes_answered, bytes_front, feed_pending}
use Rattle.line_text.proofs.ByteLemmas.{first_front, none_ends, whole_all, whole_pending}
use Rattle.line_text.proofs.hearings.hear_bytes.Goals as goal

pub returns-in_err-answer_first-in-Some-clause-err :
    goal.returns-in_err-answer_first-in-Some-clause-err
returns-in_err-answer_first-in-Some-clause-err g c =
    let passed_on = err_from_is_err_and c.from_residual.result c.from_residual.ensures.1 in
    rw passed_on.1 (first_front _ _ _ _ _ _ _ _ c.in-Some.ensures.some
    c.in_err-answer_first-in-Some.ensures.err)

pub returns-in_err-left-in-Some-clause-err : goal.returns-in_err-left-in-Some-clause-err
returns-in_err-left-in-Some-clause-err g c =
    let passed_on = err_from_is_err_and c.from_residual-in_err-left-in-Some.result
    c.from_residual-in_err-left-in-Some.ensures.1 in
    let rest = slice_from (c.in-Some.end + 1) c.args.bytes.now in
    rw passed_on.1 (bytes_front _ _ _ _ _ _ _ _ c.in-Some.ensures.some
    c.in_ok-answer_first-in-Some.ensures.ok _ (rw rest at c.in_err-left-in-Some.ensures.err))

pub returns-in_ok-left-in-Some-clause-pending : goal.returns-in_ok-left-in-Some-clause-pending
returns-in_ok-left-in-Some-clause-pending g c =
    let rest = slice_from (c.in-Some.end + 1) c.args.bytes.now in
    let kept = (rw c.in_ok-answer_first-in-Some.ensures.none_pending at c.add.ensures) ∙ sym
    (whole_pending _ _ _ _ _ _ _ c.in_ok-left-in-Some.ensures.ok) in
    kept ∙ ap (λ (bs : List ℕ). pending_after (Kept []) bs) rest ∙ sym
    (feed_pending _ _ _ c.in-Some.ensures.some)

pub returns-in_ok-left-in-Some-clause-ok : goal.returns-in_ok-left-in-Some-clause-ok
returns-in_ok-left-in-Some-clause-ok g c =
    let rest = slice_from (c.in-Some.end + 1) c.args.bytes.now in
    let others = whole_all _ _ _ _ _ _ _ c.in_ok-left-in-Some.ensures.ok
    c.in_ok-left-in-Some.ensures.left in
    bytes_answered _ _ _ _ _ _ _ _ c.in-Some.ensures.some c.in_ok-answer_first-in-Some.ensures.ok _
    _ (rw rest at others)

pub returns-in-None-clause-ok : goal.returns-in-None-clause-ok
returns-in-None-clause-ok g c = none_ends _ _ _ _ _ c.in-None.ensures.none
