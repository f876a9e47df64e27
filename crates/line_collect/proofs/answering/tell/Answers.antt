use Rattle.std.proofs.Common.{rules, ◌≢◌, ◌∷◌, [], ◌∙◌, ℕ, ap, refl, sym}
use Rattle.line_text.specs.Replies.{refusal_record}
use Rattle.line_fields.proofs.OutletLemmas.{one_text}
use Rattle.line_fields.specs.Texts.{record_text}
use Rattle.line_collect.specs.declared.refusals.CollectError.TheVariants as errors
use Rattle.line_collect.specs.Answers.{Given, Refused, told_record}
use Rattle.line_collect.specs.Refusals.{report_error_code}
use Rattle.line_collect.proofs.AnswerLemmas.{does_written}
use Rattle.line_collect.proofs.answering.tell.Goals as goal

pub returns-in-Ok : goal.returns-in-Ok
returns-in-Ok g c old new report takes =
    rw c.outcome_if_written.ensures
    (does_written old new report (Given (told_record c.in-Ok.told ∷ [])) _ _ _ _ _ _ _ _ _
    (rw c.in-Ok.is at takes) refl (one_text (told_record c.in-Ok.told)) c.put_told.ensures)

pub returns-in-Err : goal.returns-in-Err
returns-in-Err g c old new report takes =
    let differs : c.in-Err.error ≢ errors.OutOfMemory = search rules in
    let refused = rw c.in-Err.is at takes in
    rw c.outcome_if_written-in-Err.ensures
    (does_written old new report (Refused (report_error_code c.in-Err.error)) _ _ _ _ _ _ _ _ _
    (refused.1 differs, refused.0) refl
    (one_text (refusal_record (report_error_code c.in-Err.error)) ∙ ap
    (λ (i : ℕ). record_text (refusal_record i)) (sym c.code.ensures)) c.put_refusal-put.ensures)
