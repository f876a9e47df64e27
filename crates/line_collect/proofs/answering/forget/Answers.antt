use Rattle.std.proofs.Common.{◌≡◌, ◌≢◌, ◌∙◌, ℕ, List, length, ap, refl, sym, rules, inl, inr}
use Rattle.std.specs.Prelude.{None, ◌∷◌}
use Rattle.line_text.specs.Answers.{floors_before, forget_code, forgot_record}
use Rattle.line_text.specs.Replies.{refusal_record}
use Rattle.line_claims.specs.Records.{floors_records}
use Rattle.line_fields.proofs.OutletLemmas.{one_text}
use Rattle.line_fields.specs.Texts.{record_text, records_text}
use Rattle.line_live.specs.declared.refusals.ForgetError.TheVariants as forgets
use Rattle.line_tape.specs.History.{Process}
use Rattle.line_collect.specs.Answers.{Given, Refused}
use Rattle.line_collect.specs.Collections.{CollectionView}
use Rattle.line_collect.specs.LiveAnswers.{forgot_records}
use Rattle.line_collect.proofs.AnswerLemmas.{does_written}
use Rattle.line_collect.proofs.answering.forget.Goals as goal

pub returns-in-Ok : goal.returns-in-Ok
returns-in-Ok g c =
    let same : records_text (forgot_records c.forget.new.self) ≡ records_text
    (forgot_record None ∷ floors_records 0 (floors_before c.n-n.result c.floor.result.now)) =
    ap (λ (f : List (ℕ × ℕ)). records_text (forgot_record None ∷ floors_records 0 f))
    (ap (λ (n : ℕ). floors_before n c.forget.new.self.floor)
    (sym (c.n-n.ensures.value ∙ ap (λ (h : List Process). length h) c.history.ensures.value ∙ ap
    (λ (k : CollectionView). length k.history) c.kept.ensures))
    ∙ ap (floors_before c.n-n.result) (sym c.floor.ensures)) in
    rw c.outcome_if_written.ensures
    (does_written _ _ _ (Given (forgot_records c.forget.new.self)) _ _ _ _ _ _ _ _ _
    (refl, (c.in-Ok.ensures.done refl, refl)) refl same c.put_let_go-put.ensures)

pub returns-in-Err : goal.returns-in-Err
returns-in-Err g c =
    let differs : c.in-Err.error ≢ forgets.OutOfMemory = search rules in
    rw c.outcome_if_written-in-Err.ensures
    (does_written _ _ _ (Refused (forget_code c.in-Err.error)) _ _ _ _ _ _ _ _ _ (
      inr
          (inr (c.in-Err.error, c.in-Err.ensures.refused differs, refl)),
      c.in-Err.ensures.same,
    ) refl
    (one_text (refusal_record (forget_code c.in-Err.error)) ∙ ap (λ (i : ℕ). record_text
    (refusal_record i)) (sym c.refusal_number.ensures)) c.put_refusal-put.ensures)
