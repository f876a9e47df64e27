-- What the calls of a conversation put, where all goes well and where the sink fails.
use Rattle.std.specs.Prelude.{◌≡◌, ◌⊎◌, ◌<◌, ℕ, ◌+◌, Bool, true, false, List, [], Option, Some}
use Rattle.std.specs.Prelude.{length, Result, Ok, Err}
use Rattle.line_devices.specs.Devices.{Fills, FillsFront, Puts, one_more}
use Rattle.line_text.specs.declared.faults.ServeError.{ServeError}
use Rattle.line_text.specs.declared.faults.ServeError.TheVariants as errors
use Rattle.line_text.specs.declared.outcomes.Outcome.{Outcome}
use Rattle.line_text.specs.declared.outcomes.Outcome.TheVariants as outcomes
use Rattle.line_text.specs.Answerers.{PutsAnswersFront}
use Rattle.line_text.specs.Conversations.{Ends, Serves, ServesText, Standing}
use Rattle.line_text.specs.Conversations.{first_standing, records_ending_in, records_of}
use Rattle.line_text.specs.Lines.{Kept}
use Rattle.line_text.specs.Rules.{Rules, answers_text, worst}

-- a source gave these bytes, and not a byte else; where it tells what is left, they were all of it,
-- and nothing is left
pub record GivesText (text : List ℕ) (old new : Option (List ℕ)) (given later : ℕ) : Type 0 where
  pub counted : later ≡ given + length text
  pub told : (xs : List ℕ) → old ≡ Some xs → (text ≡ xs) × (new ≡ Some [])

-- the number of why a service did not begin, or ended before its input did
abbrev pub serve_error_code : ServeError → ℕ
serve_error_code errors.OutOfMemory = 0
serve_error_code errors.Read = 36
serve_error_code errors.Write = 37

-- a source that failed gave nothing, and may have lost some bytes
pub record LosesBytes (left later : Option (List ℕ)) (given counted : ℕ) : Type 0 where
  pub lost : FillsFront left later
  pub count : counted ≡ given

-- of the source, and then of the sink, one fault more is counted where it failed, and none else
abbrev pub BlamesDevice : {A : Type 0} → Result A ServeError → ℕ → ℕ → ℕ → ℕ → Type 0
BlamesDevice (Ok done) old new before after = (new ≡ old) × (after ≡ before)
BlamesDevice (Err errors.OutOfMemory) old new before after = (new ≡ old) × (after ≡ before)
BlamesDevice (Err errors.Read) old new before after = (new ≡ one_more old) × (after ≡ before)
BlamesDevice (Err errors.Write) old new before after = (new ≡ old) × (after ≡ one_more before)

-- how often a source said that nothing is left
abbrev pub ends_if : Bool → ℕ → ℕ
ends_if true ends = ends
ends_if false ends = one_more ends

module _ {S A : Type 0} (rules : Rules S A) where
  -- bytes that came were answered, and the text of the answers was put
  pub record PutsAnswers (old : Standing S) (bytes : List ℕ) (new : Standing S)
      (taken now : Option (List ℕ)) : Type 0 where
    pub answers : List A
    pub serves : Serves rules old bytes answers new
    pub put : Puts taken now (answers_text rules answers)

  -- the end of the input was answered, and the text of that was put
  pub record PutsLast (old : Standing S) (new : Standing S)
      (taken now : Option (List ℕ)) : Type 0 where
    pub answers : List A
    pub ends : Ends rules old answers new
    pub put : Puts taken now (answers_text rules answers)

  -- a whole input was answered, this was the worst outcome, and the text of the answers was put
  pub record AnswersText (first : S) (text : List ℕ) (outcome : Outcome)
      (taken now : Option (List ℕ)) : Type 0 where
    pub answers : List A
    pub state : S
    pub serves : ServesText rules first text answers state
    pub worst_of : outcome ≡ worst rules outcomes.Done answers
    pub put : Puts taken now (answers_text rules answers)

  -- a source gave a text to its end, which was answered, and left that state
  pub record HearsOut (first new : S) (left later : Option (List ℕ)) (given counted : ℕ)
      : Type 0 where
    pub text : List ℕ
    pub gives : GivesText text left later given counted
    pub answers : List A
    pub serves : ServesText rules first text answers new

  -- a source gave some bytes, or none where nothing is left, which were answered, and the text of
  -- the answers was put
  pub record TakesTurn (old new : Standing S) (left later : Option (List ℕ)) (given counted : ℕ)
      (taken now : Option (List ℕ)) (more : Bool) : Type 0 where
    pub bytes : List ℕ
    pub fills : Fills left later bytes
    pub count : counted ≡ given + length bytes
    pub answered : PutsAnswers old bytes new taken now
    pub some : more ≡ true → 0 < length bytes
    pub none : more ≡ false → bytes ≡ []

  -- a source gave some bytes, and a prefix of the text of their answers was put
  pub record BreaksTurn (old : Standing S) (left later : Option (List ℕ)) (given counted : ℕ)
      (taken now : Option (List ℕ)) : Type 0 where
    pub bytes : List ℕ
    pub fills : Fills left later bytes
    pub count : counted ≡ given + length bytes
    pub answered :
        PutsAnswersFront rules old.state [] (records_ending_in old.pending bytes) taken now

  -- a source gave this text to its end, all lines that ended in it were answered, and the text of
  -- the answers was put
  pub record AnswersLines (first : S) (new : Standing S) (left later : Option (List ℕ))
      (given counted : ℕ) (taken now : Option (List ℕ)) : Type 0 where
    pub text : List ℕ
    pub gives : GivesText text left later given counted
    pub fills : Fills left later text
    pub answered : PutsAnswers (first_standing first) text new taken now

  -- a source gave this text before it failed or its calls were too many, and all lines that ended
  -- in it were answered
  pub record AnswersUntilFailure (first : S) (left later : Option (List ℕ)) (given counted : ℕ)
      (taken now : Option (List ℕ)) : Type 0 where
    pub text : List ℕ
    pub mid : Option (List ℕ)
    pub new : Standing S
    pub fills : Fills left mid text
    pub lost : FillsFront mid later
    pub count : counted ≡ given + length text
    pub answered : PutsAnswers (first_standing first) text new taken now

  -- a source gave this text, and a prefix of the text of its answers was put
  pub record BreaksOff (first : S) (left later : Option (List ℕ)) (given counted : ℕ)
      (taken now : Option (List ℕ)) : Type 0 where
    pub text : List ℕ
    pub fills : Fills left later text
    pub count : counted ≡ given + length text
    pub answered : PutsAnswersFront rules first [] (records_ending_in (Kept []) text) taken now

  -- a source gave this text, and a prefix of the text of the answers was put: to the lines that
  -- ended in it, or to all of it where it was the whole input
  pub record AnswersFrontOf (first : S) (left later : Option (List ℕ)) (given counted : ℕ)
      (taken now : Option (List ℕ)) : Type 0 where
    pub text : List ℕ
    pub fills : Fills left later text
    pub count : counted ≡ given + length text
    pub answered : PutsAnswersFront rules first [] (records_ending_in (Kept []) text) taken now
        ⊎ (GivesText text left later given counted
        × PutsAnswersFront rules first [] (records_of text) taken now)
