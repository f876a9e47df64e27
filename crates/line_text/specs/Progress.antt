-- What the parts of a conversation do, record by record. No contract that a caller reads needs
-- this.
use Rattle.std.specs.Prelude.{◌≡◌, ℕ, ◌++◌, List, [], ◌∷◌, ◌==◌, Option, None, Some, Result, Ok}
use Rattle.std.specs.Prelude.{Err, if◌then◌else◌, nat_le, take, true}
use Rattle.line_devices.specs.Devices.{PutsButEnd}
use Rattle.line_fields.specs.declared.faults.Fault.{Fault}
use Rattle.line_fields.specs.declared.faults.Fault.TheVariants.{BadRecord}
use Rattle.line_fields.specs.Records.{Record}
use Rattle.line_text.specs.declared.limits.TheConstants.{MOST_LINE}
use Rattle.line_text.specs.declared.outcomes.Outcome.{Outcome}
use Rattle.line_text.specs.Conversations.{records_ending_in}
use Rattle.line_text.specs.Lines.{IsFirstFeed, Kept, ended_record, has_no_feed}
use Rattle.line_text.specs.Lines.{pending_after}
use Rattle.line_text.specs.Rules.{Rules, HearsAll, answers_text, worst}

-- how far a conversation is with its answers: the state of whoever answers, the worst outcome so
-- far, and the text that is not put yet
pub record Spot (S : Type 0) : Type 0 where
  pub state : S
  pub outcome : Outcome
  pub writer : List ℕ

abbrev pub spot : {S : Type 0} → S → Outcome → List ℕ → Spot S
spot state outcome writer = record { state = state; outcome = outcome; writer = writer }

-- the record of a line with so many bytes, and so many without the carriage return at its end,
-- whose fields were read
abbrev pub row_records : ℕ → ℕ → Record → List (Result Record Fault)
row_records len bare row = if nat_le len MOST_LINE then (if bare == 0 then [] else Ok row ∷ [])
    else Err BadRecord ∷ []

module _ {S A : Type 0} (rules : Rules S A) where
  -- records were answered: what was held and the text of the answers were put but for their end,
  -- which is held
  pub record AnswersRecords (old : Spot S) (records : List (Result Record Fault)) (new : Spot S)
      (taken now : Option (List ℕ)) : Type 0 where
    pub answers : List A
    pub heard : HearsAll rules old.state records answers new.state
    pub outcome : new.outcome ≡ worst rules old.outcome answers
    pub put : PutsButEnd taken now new.writer (old.writer ++ answers_text rules answers)

  -- the first line of some bytes was answered, if it ends within them; its line feed stands there
  abbrev pub AnswersNext : Spot S → List ℕ → Option ℕ → Spot S → Option (List ℕ)
      → Option (List ℕ) → Type 0
  AnswersNext old bytes None new taken now =
      (has_no_feed bytes ≡ true) × AnswersRecords old [] new taken now
  AnswersNext old bytes (Some at) new taken now = IsFirstFeed bytes at
      × AnswersRecords old (ended_record (pending_after (Kept []) (take at bytes))) new taken now

  -- of some bytes the whole lines were answered, and this is left
  pub record AnswersWhole (old : Spot S) (bytes left : List ℕ) (new : Spot S)
      (taken now : Option (List ℕ)) : Type 0 where
    pub done : List ℕ
    pub parts : bytes ≡ done ++ left
    pub none_pending : pending_after (Kept []) done ≡ Kept []
    pub answered : AnswersRecords old (records_ending_in (Kept []) done) new taken now
