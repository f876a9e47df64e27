-- What is answered to bytes that come, whoever answers their records.
use Rattle.std.specs.Prelude.{◌≡◌, ℕ, ◌++◌, List, [], Result}
use Rattle.std.specs.List.{flat_map}
use Rattle.line_fields.specs.declared.faults.Fault.{Fault}
use Rattle.line_fields.specs.Records.{Record}
use Rattle.line_text.specs.declared.outcomes.Outcome.{Outcome}
use Rattle.line_text.specs.declared.outcomes.Outcome.TheVariants as outcomes
use Rattle.line_text.specs.Lines.{Pending, Kept, ended_record, last_record, lines_in}
use Rattle.line_text.specs.Lines.{pending_after}
use Rattle.line_text.specs.Rules.{Rules, HearsAll, worst}

-- where a conversation is: the state of whoever answers, what was read of a line that has not
-- ended, and the worst outcome so far
pub record Standing (S : Type 0) : Type 0 where
  pub state : S
  pub pending : Pending
  pub outcome : Outcome

-- where it begins
abbrev pub first_standing : {S : Type 0} → S → Standing S
first_standing first = record { state = first; pending = Kept []; outcome = outcomes.Done }

-- the records of the lines that end within bytes that come
abbrev pub records_ending_in : Pending → List ℕ → List (Result Record Fault)
records_ending_in pending bytes = flat_map ended_record (lines_in pending bytes)

-- the records of a whole input
abbrev pub records_of : List ℕ → List (Result Record Fault)
records_of text = records_ending_in (Kept []) text ++ last_record (pending_after (Kept []) text)

module _ {S A : Type 0} (rules : Rules S A) where
  -- bytes that come may be answered so: all lines that end within them, and no other
  pub record Serves (old : Standing S) (bytes : List ℕ) (answers : List A)
      (new : Standing S) : Type 0 where
    pub heard : HearsAll rules old.state (records_ending_in old.pending bytes) answers new.state
    pub pending : new.pending ≡ pending_after old.pending bytes
    pub outcome : new.outcome ≡ worst rules old.outcome answers

  -- the end of the input may be answered so
  pub record Ends (old : Standing S) (answers : List A) (new : Standing S) : Type 0 where
    pub heard : HearsAll rules old.state (last_record old.pending) answers new.state
    pub pending : new.pending ≡ Kept []
    pub outcome : new.outcome ≡ worst rules old.outcome answers

  -- a whole input may be answered so
  abbrev pub ServesText : S → List ℕ → List A → S → Type 0
  ServesText first text answers new = HearsAll rules first (records_of text) answers new

  -- two pieces of an input are answered one after the other
  pub record ServesBoth (old : Standing S) (bytes more : List ℕ) (answers : List A)
      (new : Standing S) : Type 0 where
    pub first : List A
    pub rest : List A
    pub all : answers ≡ first ++ rest
    pub mid : Standing S
    pub before : Serves old bytes first mid
    pub after : Serves mid more rest new
