-- Records that are answered one after another, and the text of their answers.
use Rattle.std.proofs.Common.{◌≡◌, ℕ, ◌+◌, Bool, true, false, List, [], ◌∷◌, ◌++◌, append_assoc}
use Rattle.std.proofs.Common.{length, take, refl, sym, ap, ◌∙◌, subst, inl, inr, arith}
use Rattle.std.specs.Prelude.{◌==◌, Option, Some, None, Result, Ok, Err}
use Rattle.std.proofs.lemmas.Grind.{flat_map-append}
use Rattle.std.proofs.lemmas.List.{append-nil, take-append-le, take_all}
use Rattle.std.proofs.lemmas.List.Sums.{fold-append}
use Rattle.std.proofs.lemmas.Bool.{cases_lt, false≢true}
use Rattle.std.proofs.Math.Seq.{take-append-add, take-append_seam}
use Rattle.line_devices.specs.Devices.{PutsButEnd, PutsFront}
use Rattle.line_devices.proofs.PutLemmas.{holds_all, holds_more, puts_front_of_held, puts_of_held}
use Rattle.line_fields.specs.declared.faults.Fault.{Fault}
use Rattle.line_fields.specs.declared.faults.Fault.TheVariants.{BadRecord}
use Rattle.line_fields.specs.Records.{Record, parts}
use Rattle.line_text.specs.declared.outcomes.Outcome.{Outcome}
use Rattle.line_text.specs.declared.outcomes.Outcome.TheVariants as outcomes
use Rattle.line_text.specs.Lines.{record_of}
use Rattle.line_text.specs.Rules.{Rules, HearsAll, answer_text, answers_text, worse, worst}
use Rattle.line_text.specs.Progress.{AnswersRecords, Spot}
use Rattle.line_text.specs.Answerers.{PutsAnswersFront}

-- a fault is the worst
pub worse_faulted : (outcome : Outcome) → worse outcome outcomes.Faulted ≡ outcomes.Faulted
worse_faulted outcomes.Done = refl
worse_faulted outcomes.Refused = refl
worse_faulted outcomes.Faulted = refl

-- the first of some records are the first of these and more
front_of_more : {A : Type 0} (done : ℕ) (xs ys : List A)
    → (n : ℕ) × (take n (xs ++ ys) ≡ take done xs)
front_of_more {A} done xs ys =
    elim (cases_lt done (length xs)) [
      | inl lt ↦ (done, take-append-le done xs ys (omega arith))
      | inr le ↦ (length xs, take-append_seam xs ys ∙ sym (take_all done xs le))
    ]

-- a line with a byte is one record, or none
pub some_record : (plain : Bool) (line : List ℕ) → (length line == 0) ≡ false
    → (one : Result Record Fault) × (record_of plain line ≡ one ∷ [])
some_record false line some = (Err BadRecord, refl)
some_record true [] some = absurd (false≢true (sym some))
some_record true (byte ∷ rest) some = (Ok (parts 44 (byte ∷ rest)), refl)

module _ {S A : Type 0} (rules : Rules S A) where
  -- ---- answers, one after the other

  pub HearsAll-both : (old mid new : S) (records more : List (Result Record Fault)) (answers others
      : List A) → HearsAll rules old records answers mid → HearsAll rules mid more others new
      → HearsAll rules old (records ++ more) (answers ++ others) new
  HearsAll-both old mid new [] more [] others h k =
      subst (λ (m : S). HearsAll rules m more others new) h k
  HearsAll-both old mid new [] more (one ∷ answers) others h k = absurd h
  HearsAll-both old mid new (r ∷ records) more [] others h k = absurd h
  HearsAll-both old mid new (r ∷ records) more (one ∷ answers) others (next, is, h) k =
      (next, is, HearsAll-both next mid new records more answers others h k)

  pub answers_text-append : (answers others : List A) → answers_text rules (answers ++ others)
      ≡ answers_text rules answers ++ answers_text rules others
  answers_text-append answers others = flat_map-append (answer_text rules) answers others

  pub answers_text_one : (one : A) → answers_text rules (one ∷ []) ≡ answer_text rules one
  answers_text_one one = append-nil (answer_text rules one)

  pub worst-append : (outcome : Outcome) (answers others : List A)
      → worst rules outcome (answers ++ others) ≡ worst rules (worst rules outcome answers) others
  worst-append outcome answers others = fold-append (λ (so_far : Outcome) (answer : A). worse so_far
      (rules.outcome answer)) outcome answers others

  -- ---- the text of what was held and of answers, which was put but for its end

  -- text behind what was held
  abbrev behind_held : List ℕ → List A → List ℕ
  behind_held held answers = held ++ answers_text rules answers

  behind_both : (held : List ℕ) (answers others : List A)
      → behind_held held answers ++ answers_text rules others ≡ behind_held held (answers ++ others)
  behind_both held answers others =
      append_assoc held (answers_text rules answers) (answers_text rules others) ∙ ap
      (λ (t : List ℕ). held ++ t) (sym (answers_text-append answers others))

  pub none_answered : (old : Spot S) (taken : Option (List ℕ))
      → AnswersRecords rules old [] old taken taken
  none_answered old taken = record {
    answers = [];
    heard = refl;
    outcome = refl;
    put = subst (λ (t : List ℕ). PutsButEnd taken taken old.writer t) (sym (append-nil old.writer))
        (holds_all taken old.writer);
  }

  pub answers_both : (old mid new : Spot S) (records more : List (Result Record Fault))
      (taken between now : Option (List ℕ)) → AnswersRecords rules old records mid taken between
      → AnswersRecords rules mid more new between now
      → AnswersRecords rules old (records ++ more) new taken now
  answers_both old mid new records more taken between now h k = record {
    answers = h.answers ++ k.answers;
    heard = HearsAll-both old.state mid.state new.state records more h.answers k.answers h.heard
        k.heard;
    outcome = k.outcome ∙ ap (λ (o : Outcome). worst rules o k.answers) h.outcome ∙ sym
        (worst-append old.outcome h.answers k.answers);
    put =
        subst (λ (t : List ℕ). PutsButEnd taken now new.writer t)
        (behind_both old.writer h.answers k.answers)
        (puts_of_held taken between now (mid.writer ++ answers_text rules k.answers) new.writer
        (behind_held old.writer h.answers ++ answers_text rules k.answers)
        (holds_more taken between mid.writer (behind_held old.writer h.answers)
        (answers_text rules k.answers) h.put) k.put);
  }

  -- ---- fronts

  pub front_first : (old : S) (held : List ℕ) (records more : List (Result Record Fault))
      (taken now : Option (List ℕ)) → PutsAnswersFront rules old held records taken now
      → PutsAnswersFront rules old held (records ++ more) taken now
  front_first old held records more taken now h =
      let front = front_of_more h.done records more in
      record {
        done = front.0;
        answers = h.answers;
        state = h.state;
        heard = subst
            (λ (rs : List (Result Record Fault)). HearsAll rules old rs h.answers h.state)
            (sym front.1) h.heard;
        put =
            h.put;
      }

  -- some records were answered, and of the answers to the first of more a front was put
  pub front_after : (old mid : S) (held kept : List ℕ) (records more : List (Result Record Fault))
      (answers : List A) (taken between now : Option (List ℕ))
      → HearsAll rules old records answers mid
      → PutsButEnd taken between kept (held ++ answers_text rules answers) → PutsAnswersFront rules
      mid kept more between now → PutsAnswersFront rules old held (records ++ more) taken now
  front_after old mid held kept records more answers taken between now heard put k = record {
    done = length records + k.done;
    answers = answers ++ k.answers;
    state = k.state;
    heard =
        subst (λ (rs : List (Result Record Fault)). HearsAll rules old rs
        (answers ++ k.answers) k.state) (sym (take-append-add records more k.done))
        (HearsAll-both old mid k.state records (take k.done more) answers k.answers heard k.heard);
    put =
        subst (λ (t : List ℕ). PutsFront taken now t) (behind_both held answers k.answers)
        (puts_front_of_held taken between now (kept ++ answers_text rules k.answers)
        (behind_held held answers ++ answers_text rules k.answers)
        (holds_more taken between kept (behind_held held answers)
        (answers_text rules k.answers) put) k.put);
  }

  pub front_behind : (old mid : Spot S) (records more : List (Result Record Fault))
      (taken between now : Option (List ℕ)) → AnswersRecords rules old records mid taken between
      → PutsAnswersFront rules mid.state mid.writer more between now
      → PutsAnswersFront rules old.state old.writer (records ++ more) taken now
  front_behind old mid records more taken between now h k = front_after old.state mid.state
      old.writer mid.writer records more h.answers taken between now h.heard h.put k

  pub front_put : (old mid : Spot S) (records : List (Result Record Fault))
      (taken between now : Option (List ℕ)) → AnswersRecords rules old records mid taken between
      → old.writer ≡ [] → PutsFront between now mid.writer
      → PutsAnswersFront rules old.state [] records taken now
  front_put old mid records taken between now h none put = record {
    done = length records;
    answers = h.answers;
    state = mid.state;
    heard = subst (λ (rs : List (Result Record Fault)). HearsAll rules old.state rs h.answers
        mid.state) (sym (take_all (length records) records (omega arith))) h.heard;
    put = subst (λ (t : List ℕ). PutsFront taken now (t ++ answers_text rules h.answers)) none
        (puts_front_of_held taken between now mid.writer
        (old.writer ++ answers_text rules h.answers) h.put put);
  }

  -- ---- one record

  -- one answer, of which this text was put but for its end
  pub one_answered : (old new : Spot S) (one : Result Record Fault) (answer : A)
      (taken now : Option (List ℕ)) → rules.hears old.state one answer new.state
      → new.outcome ≡ worse old.outcome (rules.outcome answer)
      → PutsButEnd taken now new.writer (old.writer ++ answer_text rules answer)
      → AnswersRecords rules old (one ∷ []) new taken now
  one_answered old new one answer taken now heard outcome put = record {
    answers = answer ∷ [];
    heard = (new.state, heard, refl);
    outcome = outcome;
    put = subst (λ (t : List ℕ). PutsButEnd taken now new.writer (old.writer ++ t))
        (sym (answers_text_one answer)) put;
  }

  pub one_front : (old new : S) (held : List ℕ) (one : Result Record Fault) (answer : A)
      (taken now : Option (List ℕ)) → rules.hears old one answer new
      → PutsFront taken now (held ++ answer_text rules answer)
      → PutsAnswersFront rules old held (one ∷ []) taken now
  one_front old new held one answer taken now heard put = record {
    done = 1;
    answers = answer ∷ [];
    state = new;
    heard = (new, heard, refl);
    put =
        subst (λ (t : List ℕ). PutsFront taken now (held ++ t)) (sym (answers_text_one answer)) put;
  }
