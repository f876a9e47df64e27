-- What one command is told, and what is written of it.
use Rattle.std.proofs.Common.{◌≡◌, ◌≤◌, ℕ, ◌+◌, cond, List, [], ◌∷◌, ◌++◌, Option, length, refl, ap}
use Rattle.std.proofs.Common.{◌∙◌, subst, sym, arith}
use Rattle.std.specs.Prelude.{Bool, IsTrue, true, false}
use Rattle.std.specs.List.{flat_map}
use Rattle.std.proofs.lemmas.Grind.{flat_map-append}
use Rattle.std.proofs.lemmas.List.{append-nil}
use Rattle.std.proofs.lemmas.List.Sums.{count_by-le-length, sum_by-append}
use Rattle.line_devices.specs.Devices.{PutsButEnd, PutsFront}
use Rattle.line_claims.specs.Claims.{Claim}
use Rattle.line_claims.specs.Records.{in_order, version_of}
use Rattle.line_fields.specs.declared.faults.Fault.TheVariants.{NoSuchProcess}
use Rattle.line_fields.specs.Faults.{code_of}
use Rattle.line_fields.specs.Texts.{record_text, records_text}
use Rattle.line_fields.proofs.OutletLemmas.{one_text}
use Rattle.line_plan.specs.declared.plans.Plan.{Plan}
use Rattle.line_moves.specs.Listed.{ListedRound}
use Rattle.line_world.specs.Refusals.{has_stranger}
use Rattle.line_world.specs.Steps.{IsPlan}
use Rattle.line_world.specs.Machine.{Machine}
use Rattle.line_scripts.specs.declared.commands.Command.{Command}
use Rattle.line_scripts.specs.declared.commands.Command.TheVariants as commands
use Rattle.line_tape.specs.declared.steps.Step.{Step}
use Rattle.line_world.specs.declared.replies.Reply.{Reply}
use Rattle.line_world.specs.declared.replies.StepError.{StepError}
use Rattle.line_world.specs.declared.replies.Answer.TheVariants as answers
use Rattle.line_cuts.specs.Cuts.{Floor}
use Rattle.line_live.specs.Lives.{LiveMachine, TakesLive}
use Rattle.line_world.specs.Codes.{refusal_code}
use Rattle.line_text.specs.Replies.{reply_records, refusal_record as refused_record}
use Rattle.line_text.specs.Rounds.{rounds_records}
use Rattle.line_text.specs.declared.halts.Halt.TheVariants as halts
use Rattle.line_text.specs.Answers.{CommandAnswer, Answered, Refused, Listing, Shown, Claimed}
use Rattle.line_text.specs.Answers.{Planned, Judged, Forgot, Saved, IsClaimFor, claimed_records}
use Rattle.line_text.specs.Answers.{command_answer_records, floors_gone, shown_records}
use Rattle.line_text.specs.Answers.{is_refused, Tells, TellsAll, text_of, refusals, DoesCommand}
use Rattle.line_text.specs.Answers.{DoesFront}

-- runs, one after the other
pub TellsAll-both : (old mid new : LiveMachine) (commands others : List Command)
    (told more : List CommandAnswer) → TellsAll old commands told mid → TellsAll mid others more new
    → TellsAll old (commands ++ others) (told ++ more) new
TellsAll-both old mid new [] others [] more h k =
    subst (λ (m : LiveMachine). TellsAll m others more new) h k
TellsAll-both old mid new [] others (one ∷ told) more h k = absurd h
TellsAll-both old mid new (c ∷ commands) others [] more h k = absurd h
TellsAll-both old mid new (c ∷ commands) others (one ∷ told) more (next, is, h) k =
    (next, is, TellsAll-both next mid new commands others told more h k)

-- the text of answers behind others
pub text_of-append : (told more : List CommandAnswer)
    → text_of (told ++ more) ≡ text_of told ++ text_of more
text_of-append told more = ap records_text
    (flat_map-append command_answer_records told more) ∙ flat_map-append record_text
    (flat_map command_answer_records told) (flat_map command_answer_records more)

-- of one answer
pub text_of-one : (one : CommandAnswer)
    → text_of (one ∷ []) ≡ records_text (command_answer_records one)
text_of-one one = ap records_text (append-nil (command_answer_records one))

-- its refusal, if it is one, is one more
pub refusals-push : (told : List CommandAnswer) (one : CommandAnswer)
    → refusals (told ++ one ∷ []) ≡ refusals told + refusals (one ∷ [])
refusals-push told one = sum_by-append (λ x. cond (is_refused x) 1 0) told (one ∷ [])

-- of one answer there is one refusal at most
pub refusals_one : (one : CommandAnswer) → refusals (one ∷ []) ≤ 1
refusals_one one = count_by-le-length is_refused (one ∷ [])

-- whether it is one
pub one_refusal : (told : CommandAnswer) → refusals (told ∷ []) ≡ cond (is_refused told) 1 0
one_refusal (Answered (answers.Done reply)) = omega arith
one_refusal (Answered (answers.Refused error)) = omega arith
one_refusal (Refused code) = omega arith
one_refusal (Listing floor n rounds) = omega arith
one_refusal (Shown floors history) = omega arith
one_refusal (Claimed floors history claim) = omega arith
one_refusal (Planned (answers.Done reply)) = omega arith
one_refusal (Planned (answers.Refused error)) = omega arith
one_refusal (Judged floors history claim) = omega arith
one_refusal (Forgot round floors) = omega arith
one_refusal (Saved parts) = omega arith

-- a text was put but for its end, seen as what a command is told
pub does : (old new : LiveMachine) (command : Command) (told : CommandAnswer)
    (taken now : Option (List ℕ)) (held later text : List ℕ) → Tells old command told new
    → records_text (command_answer_records told) ≡ text → PutsButEnd taken now later (held ++ text)
    → DoesCommand old command new taken now held later (is_refused told)
does old new command told taken now held later text tells same put =
    record {
      told = told;
      tells = tells;
      counted = refl;
      put = subst
          (λ (t : List ℕ). PutsButEnd taken now later (held ++ t)) (sym same) put;
    }

pub does_front : (old new : LiveMachine) (command : Command) (told : CommandAnswer)
    (taken now : Option (List ℕ)) (held text : List ℕ) → Tells old command told new
    → records_text (command_answer_records told) ≡ text → PutsFront taken now (held ++ text)
    → DoesFront old command new taken now held
does_front old new command told taken now held text tells same put =
    record {
      told = told;
      tells = tells;
      put = subst
          (λ (t : List ℕ). PutsFront taken now (held ++ t)) (sym same) put;
    }

-- a step that was done
pub reply_does : (old new : LiveMachine) (step : Step) (reply : Reply) (taken now : Option (List ℕ))
    (held later : List ℕ) → TakesLive old step (answers.Done reply) new
    → PutsButEnd taken now later (held ++ records_text (reply_records reply))
    → DoesCommand old (commands.Do step) new taken now held later false
reply_does old new step reply taken now held later takes put = does old new (commands.Do step)
    (Answered (answers.Done reply)) taken now held later
    (records_text (reply_records reply)) takes refl put

pub reply_front : (old new : LiveMachine) (step : Step) (reply : Reply)
    (taken now : Option (List ℕ)) (held : List ℕ) → TakesLive old step (answers.Done reply) new
    → PutsFront taken now (held ++ records_text (reply_records reply))
    → DoesFront old (commands.Do step) new taken now held
reply_front old new step reply taken now held takes put = does_front old new (commands.Do step)
    (Answered (answers.Done reply)) taken now held
    (records_text (reply_records reply)) takes refl put

-- a step that was refused
pub refusal_does : (old new : LiveMachine) (step : Step) (error : StepError) (code : ℕ)
    (taken now : Option (List ℕ)) (held later : List ℕ)
    → TakesLive old step (answers.Refused error) new → code ≡ refusal_code error
    → PutsButEnd taken now later (held ++ record_text (refused_record code))
    → DoesCommand old (commands.Do step) new taken now held later true
refusal_does old new step error code taken now held later takes same put =
    does old new (commands.Do step) (Answered (answers.Refused error)) taken now held later
    (record_text (refused_record code)) takes
    (one_text (refused_record (refusal_code error)) ∙ ap (λ (i : ℕ). record_text (refused_record i))
    (sym same)) put

pub refusal_front : (old new : LiveMachine) (step : Step) (error : StepError) (code : ℕ)
    (taken now : Option (List ℕ)) (held : List ℕ) → TakesLive old step (answers.Refused error) new
    → code ≡ refusal_code error
    → PutsFront taken now (held ++ record_text (refused_record code))
    → DoesFront old (commands.Do step) new taken now held
refusal_front old new step error code taken now held takes same put =
    does_front old new (commands.Do step) (Answered (answers.Refused error)) taken now held
    (record_text (refused_record code)) takes
    (one_text (refused_record (refusal_code error)) ∙ ap (λ (i : ℕ). record_text (refused_record i))
    (sym same)) put

-- a command that was refused before any step
pub told_does : (old : LiveMachine) (code : ℕ) (taken now : Option (List ℕ)) (held later : List ℕ)
    → PutsButEnd taken now later (held ++ record_text (refused_record code))
    → DoesCommand old (commands.Refused code) old taken now held later true
told_does old code taken now held later put = does old old (commands.Refused code)
    (Refused code) taken now held later (record_text (refused_record code)) (refl, refl)
    (one_text (refused_record code)) put

pub told_front : (old : LiveMachine) (code : ℕ) (taken now : Option (List ℕ)) (held : List ℕ)
    → PutsFront taken now (held ++ record_text (refused_record code))
    → DoesFront old (commands.Refused code) old taken now held
told_front old code taken now held put = does_front old old (commands.Refused code)
    (Refused code) taken now held (record_text (refused_record code)) (refl, refl)
    (one_text (refused_record code)) put

-- rounds that were listed
pub rounds_does : (old : LiveMachine) (floor : Floor) (n : ℕ) (rounds : List ListedRound)
    (taken now : Option (List ℕ)) (held later : List ℕ) → floor ≡ old.floor
    → n ≡ length old.kept.history → rounds ≡ old.kept.rounds
    → PutsButEnd taken now later (held ++ records_text (rounds_records floor n rounds))
    → DoesCommand old commands.Rounds old taken now held later false
rounds_does old floor n rounds taken now held later at many same put = does old old commands.Rounds
    (Listing floor n rounds) taken now held later (records_text (rounds_records floor n rounds))
    (at, many, same, refl) refl put

pub rounds_front : (old : LiveMachine) (floor : Floor) (n : ℕ) (rounds : List ListedRound)
    (taken now : Option (List ℕ)) (held : List ℕ) → floor ≡ old.floor → n ≡ length old.kept.history
    → rounds ≡ old.kept.rounds
    → PutsFront taken now (held ++ records_text (rounds_records floor n rounds))
    → DoesFront old commands.Rounds old taken now held
rounds_front old floor n rounds taken now held at many same put = does_front old old commands.Rounds
    (Listing floor n rounds) taken now held (records_text (rounds_records floor n rounds))
    (at, many, same, refl) refl put

-- a history that was shown
pub shown_does : (old : LiveMachine) (taken now : Option (List ℕ)) (held later : List ℕ)
    → PutsButEnd taken now later (held ++ records_text (shown_records (floors_gone old)
    old.kept.history)) → DoesCommand old commands.History old taken now held later false
shown_does old taken now held later put = does old old commands.History
    (Shown (floors_gone old) old.kept.history) taken now held later
    (records_text (shown_records (floors_gone old) old.kept.history)) (refl, refl, refl) refl put

pub shown_front : (old : LiveMachine) (taken now : Option (List ℕ)) (held : List ℕ)
    → PutsFront taken now (held ++ records_text (shown_records (floors_gone old) old.kept.history))
    → DoesFront old commands.History old taken now held
shown_front old taken now held put = does_front old old commands.History
    (Shown (floors_gone old) old.kept.history) taken now held
    (records_text (shown_records (floors_gone old) old.kept.history)) (refl, refl, refl) refl put

-- the claim of a plan
abbrev pub claim_of : Machine → List Bool → Plan → Claim
claim_of machine failed plan = record {
  marks = in_order machine.history machine.marks;
  failed =
      failed;
  line = plan.line;
  certificate = plan.certificate.items;
  starts = [];
  replays = [];
}

claim_for : (old : Machine) (failed : List Bool) (plan : Plan) → (IsTrue (has_stranger old failed)
    → ⊥) → IsPlan old failed plan → IsClaimFor old failed (claim_of old failed plan)
claim_for old failed plan there planned =
    record { there = there; plan = plan; planned = planned; claim_is = refl }

-- its text
abbrev pub claimed_text : LiveMachine → List Bool → Plan → List ℕ
claimed_text live failed plan = records_text
    (claimed_records (version_of (in_order live.kept.history live.kept.marks))
    (floors_gone live) live.kept.history (claim_of live.kept failed plan))

-- a claim that was written
pub claim_does : (old : LiveMachine) (failed : List Bool) (plan : Plan)
    (taken now : Option (List ℕ)) (held later : List ℕ)
    → (IsTrue (has_stranger old.kept failed) → ⊥) → IsPlan old.kept failed plan
    → PutsButEnd taken now later (held ++ claimed_text old failed plan)
    → DoesCommand old (commands.Bundle failed) old taken now held later false
claim_does old failed plan taken now held later there planned put =
    does old old (commands.Bundle failed)
    (Claimed (floors_gone old) old.kept.history (claim_of old.kept failed plan)) taken now held
    later (claimed_text old failed plan)
    (refl, refl, claim_for old.kept failed plan there planned, refl) refl put

pub claim_front : (old : LiveMachine) (failed : List Bool) (plan : Plan) (taken now : Option (List
    ℕ)) (held : List ℕ) → (IsTrue (has_stranger old.kept failed) → ⊥) → IsPlan old.kept failed plan
    → PutsFront taken now (held ++ claimed_text old failed plan)
    → DoesFront old (commands.Bundle failed) old taken now held
claim_front old failed plan taken now held there planned put =
    does_front old old (commands.Bundle failed)
    (Claimed (floors_gone old) old.kept.history (claim_of old.kept failed plan)) taken now held
    (claimed_text old failed plan)
    (refl, refl, claim_for old.kept failed plan there planned, refl) refl put

-- a claim that was refused
pub stranger_does : (old : LiveMachine) (failed : List Bool) (code : ℕ) (taken now : Option (List
    ℕ)) (held later : List ℕ) → IsTrue (has_stranger old.kept failed) → code ≡ code_of NoSuchProcess
    → PutsButEnd taken now later (held ++ record_text (refused_record code))
    → DoesCommand old (commands.Bundle failed) old taken now held later true
stranger_does old failed code taken now held later stranger same put =
    does old old (commands.Bundle failed) (Refused code) taken now held later (record_text
    (refused_record code)) (stranger, same, refl) (one_text (refused_record code)) put

pub stranger_front : (old : LiveMachine) (failed : List Bool) (code : ℕ) (taken now : Option
    (List ℕ)) (held : List ℕ) → IsTrue (has_stranger old.kept failed) → code ≡ code_of NoSuchProcess
    → PutsFront taken now (held ++ record_text (refused_record code))
    → DoesFront old (commands.Bundle failed) old taken now held
stranger_front old failed code taken now held stranger same put =
    does_front old old (commands.Bundle failed) (Refused code) taken now held (record_text
    (refused_record code)) (stranger, same, refl) (one_text (refused_record code)) put

-- a sink that failed is no want of memory
pub other_halt : halts.Write ≡ halts.Memory → ⊥
other_halt same = cc
