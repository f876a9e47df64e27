-- Steps with their answers, and runs.
use Rattle.std.specs.Prelude.{◌≡◌, ◌≢◌, List, [], ◌∷◌, ◌++◌, AllPairs, Option, Some, None}
use Rattle.std.specs.List.{filter_map}
use Rattle.line_names.specs.declared.messages.MsgName.{MsgName}
use Rattle.line_tape.specs.declared.steps.Step.{Step}
use Rattle.line_world.specs.declared.replies.Answer.{Answer}
use Rattle.line_world.specs.declared.replies.Answer.TheVariants.{Done, Refused}
use Rattle.line_world.specs.declared.replies.Reply.{Reply}
use Rattle.line_world.specs.declared.replies.Reply.TheVariants.{Sent}
use Rattle.line_world.specs.Machine.{Machine}
use Rattle.line_world.specs.Refusals.{refusal_of, IsRefused}
use Rattle.line_world.specs.Steps.{Does}

-- from old, the machine may give this answer to the step and go on to new
abbrev pub Takes : Machine → Step → Answer → Machine → Type 0
Takes old step (Done reply) new = (refusal_of old step ≡ None) × Does old step reply new
Takes old step (Refused e) new = IsRefused old step e (refusal_of old step) × (new ≡ old)

-- the machine may give these answers to these steps, one after another
abbrev pub Run : Machine → List Step → List Answer → Machine → Type 0
Run old [] [] new = new ≡ old
Run old (step ∷ steps) (answer ∷ answers) new =
    (mid : Machine) × Takes old step answer mid × Run mid steps answers new
Run old [] (answer ∷ answers) new = ⊥
Run old (step ∷ steps) [] new = ⊥

-- a run of some steps and of more: the answers and the machine between
pub record IsParted (old : Machine) (steps more : List Step) (answers : List Answer)
    (new : Machine) : Type 0 where
  pub first : List Answer
  pub rest : List Answer
  pub all : answers ≡ first ++ rest
  pub mid : Machine
  pub before : Run old steps first mid
  pub after : Run mid more rest new

-- the name that a reply tells of a message sent
abbrev pub reply_name : Reply → Option MsgName
reply_name (Sent message) = Some message
reply_name reply = None

-- the name that an answer tells of a message sent
abbrev pub answer_name : Answer → Option MsgName
answer_name (Done reply) = reply_name reply
answer_name (Refused e) = None

-- no two messages sent have one name
abbrev pub AreNamedApart : List Answer → Type 0
AreNamedApart answers = AllPairs (λ a b. a ≢ b) (filter_map answer_name answers)
