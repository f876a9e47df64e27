-- What whoever answers a record does, and where a sink fails.
use Rattle.std.specs.Prelude.{◌≡◌, ℕ, ◌++◌, List, [], ◌∷◌, Option, Result, take}
use Rattle.line_devices.specs.Devices.{PutsButEnd, PutsFront, one_more}
use Rattle.line_fields.specs.declared.faults.Fault.{Fault}
use Rattle.line_fields.specs.declared.faults.ReadError.{ReadError}
use Rattle.line_fields.specs.Records.{Record}
use Rattle.line_fields.specs.Texts.{records_text}
use Rattle.line_text.specs.declared.outcomes.Outcome.{Outcome}
use Rattle.line_text.specs.declared.stops.Stop.{Stop}
use Rattle.line_text.specs.declared.stops.Stop.TheVariants as stops
use Rattle.line_text.specs.Rules.{Rules, HearsAll, answers_text}

-- a sink has one fault more where it failed, and none else
abbrev pub BlamesSink : Stop → ℕ → ℕ → Type 0
BlamesSink (stops.Fault error) old new = new ≡ old
BlamesSink stops.Write old new = new ≡ one_more old

module _ {S A : Type 0} (rules : Rules S A) where
  -- of what was held, and the text of the answers to the first of some records, a prefix was put
  pub record PutsAnswersFront (old : S) (held : List ℕ) (records : List (Result Record Fault))
      (taken now : Option (List ℕ)) : Type 0 where
    pub done : ℕ
    pub answers : List A
    pub state : S
    pub heard : HearsAll rules old (take done records) answers state
    pub put : PutsFront taken now (held ++ answers_text rules answers)

  -- a record was answered, but for the empty line: what was held and the records of the answer were
  -- put but for their end, which is held
  pub record AnswersOne (old : S) (one : Result Record Fault) (new : S)
      (taken now : Option (List ℕ)) (held later : List ℕ) (outcome : Outcome) : Type 0 where
    pub answer : A
    pub heard : rules.hears old one answer new
    pub outcome_is : outcome ≡ rules.outcome answer
    pub put : PutsButEnd taken now later (held ++ records_text (rules.records answer))

  -- a record was not done for this fault, and nothing changed; or the sink failed
  abbrev pub StopsOne : (ReadError → A) → Stop → S → Result Record Fault → S → Option (List ℕ)
      → Option (List ℕ) → List ℕ → List ℕ → Type 0
  StopsOne faulted (stops.Fault error) old one new taken now held later =
      rules.hears old one (faulted error) old × (new ≡ old) × (now ≡ taken) × (later ≡ held)
  StopsOne faulted stops.Write old one new taken now held later =
      PutsAnswersFront old held (one ∷ []) taken now
