use Rattle.std.proofs.Common.{◌+◌, ◌∙◌, refl, sym}
use Rattle.std.proofs.lemmas.Result.{err_from_is_err_and}
use Rattle.line_devices.proofs.PutLemmas.{slice_from}
use Rattle.line_text.proofs.ByteLemmas.{whole_end, whole_front, whole_none, whole_on}
use Rattle.line_text.proofs.PlainLemmas.{allowed_to}
use Rattle.line_text.proofs.records.answer_lines.Goals as goal

pub lines-init : goal.lines-init
lines-init g c = record
    { answered = whole_none _ _ _ _; input = λ e. sym c.is_plain-plain.ensures ∙ e; sound = refl }

pub returns-in_err-at-clause-err : goal.returns-in_err-at-clause-err
returns-in_err-at-clause-err g c =
    let passed_on = err_from_is_err_and c.from_residual.result c.from_residual.ensures.1 in
    rw passed_on.1 (whole_front _ _ _ _ _ _ _ c.lines.invariant.answered _ c.in_err-at.ensures.err)

pub lines-preserved : goal.lines-preserved
lines-preserved g c =
    let next = rw c.in-Some.is at c.in_ok-at.ensures.ok in
    let rest = slice_from (c.in-Some.at + 1) c.lines.rest.now in
    record {
      answered = rw rest (whole_on _ _ _ _ _ _ _ c.lines.invariant.answered _ _ _ next.0 next.1);
      input = λ e. rw rest (allowed_to _ _ (c.lines.invariant.input e) next.0).1;
      sound = c.in_ok-at.ensures.sound ∙ c.lines.invariant.sound;
    }

pub returns-in-None-clause-ok : goal.returns-in-None-clause-ok
returns-in-None-clause-ok g c =
    let next = rw c.in-None.is at c.in_ok-at.ensures.ok in
    whole_end _ _ _ _ _ _ _ c.lines.invariant.answered _ _ next.1
