-- One record that is answered, or was not done.
use Rattle.std.proofs.Common.{◌≡◌, ℕ, List, [], ◌∷◌, ◌++◌, append_assoc, sym, ap, ◌∙◌, subst}
use Rattle.std.specs.Prelude.{Option, Result}
use Rattle.std.proofs.lemmas.List.{append-nil}
use Rattle.line_devices.specs.Devices.{PutsButEnd, PutsFront}
use Rattle.line_devices.proofs.PutLemmas.{holds_more, puts_front_of_held, puts_of_held}
use Rattle.line_fields.specs.declared.faults.Fault.{Fault}
use Rattle.line_fields.specs.declared.faults.ReadError.{ReadError}
use Rattle.line_fields.specs.Records.{Record}
use Rattle.line_fields.specs.Texts.{record_text, records_text}
use Rattle.line_text.specs.declared.outcomes.Outcome.{Outcome}
use Rattle.line_text.specs.declared.outcomes.Outcome.TheVariants as outcomes
use Rattle.line_text.specs.Answerers.{AnswersOne, PutsAnswersFront}
use Rattle.line_text.specs.Progress.{AnswersRecords, Spot}
use Rattle.line_text.specs.Rules.{Rules, error_code, fault_record, text_with_end, worse}
use Rattle.line_text.proofs.HeardLemmas.{one_answered, one_front, worse_faulted}

-- the text of a fault: its record, and an empty line
pub fault_text : (error : ReadError) → text_with_end (fault_record (error_code error) ∷ [])
    ≡ record_text (fault_record (error_code error)) ++ 10 ∷ []
fault_text error =
    ap (λ (t : List ℕ). t ++ 10 ∷ []) (append-nil (record_text (fault_record (error_code error))))

module _ {S A : Type 0} (rules : Rules S A) where
  -- behind what was put of an answer its empty line is put
  pub ended_answer : (old new : Spot S) (one : Result Record Fault) (state : S) (held : List ℕ)
      (taken between now : Option (List ℕ)) (outcome : Outcome)
      → AnswersOne rules old.state one state taken between old.writer held outcome
      → new.state ≡ state → new.outcome ≡ worse old.outcome outcome → PutsButEnd between now
      new.writer (held ++ 10 ∷ []) → AnswersRecords rules old (one ∷ []) new taken now
  ended_answer old new one state held taken between now outcome h same is put =
      one_answered rules old new one h.answer taken now (subst (λ (m : S). rules.hears old.state one
      h.answer m) (sym same) h.heard) (is ∙ ap (worse old.outcome) h.outcome_is)
      (subst (λ (t : List ℕ). PutsButEnd taken now new.writer t)
      (append_assoc old.writer (records_text (rules.records h.answer)) (10 ∷ []))
      (puts_of_held taken between now (held ++ 10 ∷ []) new.writer
      ((old.writer ++ records_text (rules.records h.answer)) ++ 10 ∷ [])
      (holds_more taken between held (old.writer ++ records_text (rules.records h.answer))
      (10 ∷ []) h.put) put))

  pub front_of_answer : (old state : S) (writer held : List ℕ) (one : Result Record Fault)
      (taken between now : Option (List ℕ)) (outcome : Outcome)
      → AnswersOne rules old one state taken between writer held outcome
      → PutsFront between now (held ++ 10 ∷ [])
      → PutsAnswersFront rules old writer (one ∷ []) taken now
  front_of_answer old state writer held one taken between now outcome h put =
      one_front rules old state writer one h.answer taken now h.heard
      (subst (λ (t : List ℕ). PutsFront taken now t)
      (append_assoc writer (records_text (rules.records h.answer)) (10 ∷ []))
      (puts_front_of_held taken between now (held ++ 10 ∷ [])
      ((writer ++ records_text (rules.records h.answer)) ++ 10 ∷ [])
      (holds_more taken between held (writer ++ records_text (rules.records h.answer))
      (10 ∷ []) h.put) put))

  -- a fault, whose text is put
  pub fault_answered : (faulted : ReadError → A)
      → ((error : ReadError) → rules.records (faulted error) ≡ fault_record (error_code error) ∷ [])
      → ((error : ReadError) → rules.outcome (faulted error) ≡ outcomes.Faulted) → (old new : Spot
      S) (one : Result Record Fault) (error : ReadError) (taken now : Option (List ℕ))
      → rules.hears old.state one (faulted error) new.state → new.outcome ≡ outcomes.Faulted
      → PutsButEnd taken now new.writer (old.writer ++ text_with_end (fault_record
      (error_code error) ∷ [])) → AnswersRecords rules old (one ∷ []) new taken now
  fault_answered faulted records worst_is old new one error taken now heard is put =
      one_answered rules old new one (faulted error) taken now heard
      (is ∙ sym (ap (worse old.outcome) (worst_is error) ∙ worse_faulted old.outcome))
      (subst (λ (rs : List Record). PutsButEnd taken now new.writer
      (old.writer ++ text_with_end rs)) (sym (records error)) put)

  pub fault_front : (faulted : ReadError → A)
      → ((error : ReadError) → rules.records (faulted error) ≡ fault_record (error_code error) ∷ [])
      → (old new : S) (held : List ℕ) (one : Result Record Fault) (error : ReadError)
      (taken now : Option (List ℕ))
      → rules.hears old one (faulted error) new
      → PutsFront taken now (held ++ text_with_end (fault_record (error_code error) ∷ []))
      → PutsAnswersFront rules old held (one ∷ []) taken now
  fault_front faulted records old new held one error taken now heard put =
      one_front rules old new held one (faulted error) taken now heard (subst (λ (rs : List Record).
      PutsFront taken now (held ++ text_with_end rs)) (sym (records error)) put)
