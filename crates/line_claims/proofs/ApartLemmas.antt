-- A text behind whole lines, or whole lines behind which there is none: its records and its bytes
-- stand apart from theirs.
use Rattle.std.proofs.Common.{◌≡◌, ◌&&◌, ◌++◌, Bool, List, false, inl, inr, refl, sym, ap, ◌∙◌}
use Rattle.std.proofs.Common.{subst, true, ℕ}
use Rattle.std.proofs.lemmas.List.{append-nil}
use Rattle.line_fields.specs.Bytes.{is_input_text}
use Rattle.line_fields.specs.Records.{Record, records_of_text}
use Rattle.line_fields.proofs.ApartLemmas.{input_apart, records_apart}
use Rattle.line_fields.proofs.TextLemmas.{empty_is_input, records_of_nothing}
use Rattle.line_claims.specs.Readings.{EndsBefore}

pub records_before : (front rest : List ℕ) → EndsBefore front rest
    → records_of_text (front ++ rest) ≡ records_of_text front ++ records_of_text rest
records_before front rest (inl none) =
    subst (λ (t : List ℕ). records_of_text (front ++ t)
    ≡ records_of_text front ++ records_of_text t) (sym none)
    (ap records_of_text (append-nil front) ∙ sym (append-nil (records_of_text front)) ∙ sym
    (ap (λ (rs : List Record). records_of_text front ++ rs) records_of_nothing))
records_before front rest (inr ends) = records_apart front rest ends

and_true : (a : Bool) → (a && true) ≡ a
and_true true = refl
and_true false = refl

pub input_before : (front rest : List ℕ) → EndsBefore front rest
    → is_input_text (front ++ rest) ≡ (is_input_text front && is_input_text rest)
input_before front rest (inl none) =
    subst (λ (t : List ℕ). is_input_text (front ++ t) ≡ (is_input_text front && is_input_text t))
    (sym none)
    (ap is_input_text (append-nil front) ∙ sym (and_true (is_input_text front)) ∙ sym
    (ap (λ (b : Bool). is_input_text front && b) empty_is_input))
input_before front rest (inr ends) = input_apart front rest ends
