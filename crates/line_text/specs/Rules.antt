-- How whoever answers records does so, and the text of answers.
use Rattle.std.specs.Prelude.{◌≡◌, ℕ, ◌++◌, List, [], ◌∷◌, fold, Result, codes, decimal}
use Rattle.std.specs.List.{flat_map}
use Rattle.line_claims.specs.Faults.{name_of}
use Rattle.line_fields.specs.declared.faults.Fault.{Fault}
use Rattle.line_fields.specs.declared.faults.ReadError.{ReadError}
use Rattle.line_fields.specs.declared.faults.ReadError.TheVariants as errors
use Rattle.line_fields.specs.Faults.{code_of}
use Rattle.line_fields.specs.Records.{Record}
use Rattle.line_fields.specs.Texts.{records_text}
use Rattle.line_text.specs.declared.outcomes.Outcome.{Outcome}
use Rattle.line_text.specs.declared.outcomes.Outcome.TheVariants as outcomes

-- what records may be answered, by whoever has a state of S and gives answers of A
pub record Rules (S A : Type 0) : Type 1 where
  -- a record, or the fault of a line that is none, may be answered so, and leaves the second state
  pub hears : S → Result Record Fault → A → S → Type 0
  -- the records of an answer
  pub records : A → List Record
  -- and its outcome
  pub outcome : A → Outcome

-- the number of a fault; 0 where memory ran out
abbrev pub error_code : ReadError → ℕ
error_code errors.OutOfMemory = 0
error_code (errors.Fault fault) = code_of fault

-- fault,CODE,NAME
abbrev pub fault_record : ℕ → Record
fault_record code = codes "fault" ∷ decimal code ∷ name_of code ∷ []

-- the text of an answer of these records: the records, and an empty line
abbrev pub text_with_end : List Record → List ℕ
text_with_end records = records_text records ++ (10 ∷ [])

-- the worse of two outcomes
abbrev pub worse : Outcome → Outcome → Outcome
worse outcomes.Done other = other
worse outcomes.Refused outcomes.Faulted = outcomes.Faulted
worse outcomes.Refused other = outcomes.Refused
worse outcomes.Faulted other = outcomes.Faulted

module _ {S A : Type 0} (rules : Rules S A) where
  -- the text of an answer
  abbrev pub answer_text : A → List ℕ
  answer_text answer = text_with_end (rules.records answer)

  -- the text of answers
  abbrev pub answers_text : List A → List ℕ
  answers_text answers = flat_map answer_text answers

  -- records may be answered these, one after another
  abbrev pub HearsAll : S → List (Result Record Fault) → List A → S → Type 0
  HearsAll old [] [] new = new ≡ old
  HearsAll old (one ∷ others) (answer ∷ answers) new =
      (mid : S) × rules.hears old one answer mid × HearsAll mid others answers new
  HearsAll old [] (answer ∷ answers) new = ⊥
  HearsAll old (one ∷ others) [] new = ⊥

  -- the worst of an outcome and those of answers
  abbrev pub worst : Outcome → List A → Outcome
  worst outcome answers =
      fold (λ so_far answer. worse so_far (rules.outcome answer)) outcome answers
