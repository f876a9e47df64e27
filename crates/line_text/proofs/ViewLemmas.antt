-- What is told of a recovery that is only planned.
use Rattle.std.proofs.Common.{◌≡◌, ℕ, List, ◌++◌, Bool, true, false, Option, length, map, refl, sym}
use Rattle.std.proofs.Common.{ap, ◌∙◌, subst}
use Rattle.line_check.specs.Answers.{replays_due, starts_due}
use Rattle.line_claims.specs.Claims.{Claim}
use Rattle.line_claims.specs.Records.{in_order, whole_claim}
use Rattle.line_devices.specs.Devices.{PutsButEnd, PutsFront}
use Rattle.line_fields.proofs.OutletLemmas.{one_text}
use Rattle.line_fields.specs.Texts.{record_text, records_text}
use Rattle.line_moves.specs.Restarts.{restored_states}
use Rattle.line_plan.specs.declared.plans.Plan.{Plan}
use Rattle.line_scripts.specs.declared.commands.Command.TheVariants as commands
use Rattle.line_tape.specs.declared.steps.Step.TheVariants.{Recover}
use Rattle.line_tape.specs.History.{Process}
use Rattle.line_names.specs.declared.certificates.Passed.{Passed}
use Rattle.line_names.specs.declared.choices.Choice.{Choice}
use Rattle.line_tape.specs.Restart.{HaveFurther, restarted_history}
use Rattle.line_tape.specs.Views.{MarksView}
use Rattle.line_world.specs.declared.replies.Answer.{Answer}
use Rattle.line_world.specs.declared.replies.Answer.TheVariants as answers
use Rattle.line_world.specs.declared.replies.StepError.{StepError}
use Rattle.line_world.specs.declared.replies.StepError.TheVariants.{NoMoreIncarnations}
use Rattle.line_world.specs.declared.replies.StepError.TheVariants.{NoSuchProcess}
use Rattle.line_world.specs.Codes.{refusal_code}
use Rattle.line_world.specs.Machine.{Machine}
use Rattle.line_world.specs.Refusals.{has_stranger, IsRefused}
use Rattle.line_world.specs.Steps.{restarted_machine, IsPlan, Recovers}
use Rattle.line_world.proofs.StepLemmas.{may_recover, Takes-refused}
use Rattle.line_live.specs.CutMachines.{whole_answer}
use Rattle.line_live.specs.Lives.{LiveMachine}
use Rattle.line_text.specs.Answers.{CommandAnswer, Answered, Refused, Listing, Shown, Claimed}
use Rattle.line_text.specs.Answers.{Planned, Judged, Forgot, Saved, DoesCommand, DoesFront}
use Rattle.line_text.specs.Answers.{IsEverybody, IsPlanToRecover, LiveMayAnswer, MayAnswer}
use Rattle.line_text.specs.Answers.{Tells, claimed_records, floors_gone, is_refused}
use Rattle.line_text.specs.Replies.{planned_records, refusal_record as refused_record}
use Rattle.line_text.proofs.AnswerLemmas.{does, does_front}

-- a plan whose line has further incarnations is what a recovery would go on from
pub would_recover : (machine : Machine) (failed : List Bool) (plan : Plan)
    (states : List (Option (List ℕ))) (incarnations : List ℕ) → IsPlan machine failed plan
    → HaveFurther machine.history plan.line
    → states ≡ restored_states machine.history plan.line → incarnations ≡ map
    (λ (process : Process). process.incarnation) (restarted_history machine.history plan.line)
    → Recovers machine failed plan states incarnations (restarted_machine machine plan.line)
would_recover machine failed plan states incarnations is further states_are incarnations_are =
    record {
      plan_is = is;
      further = further;
      states_are = states_are;
      incarnations_are = incarnations_are;
      new_is = refl;
    }

-- a process that there is not refuses a recovery
pub stranger_refused : (machine : Machine) (failed : List Bool) → has_stranger machine failed ≡ true
    → MayAnswer machine (Recover failed) (answers.Refused NoSuchProcess)
stranger_refused machine failed there =
    (machine, Takes-refused machine (Recover failed) NoSuchProcess (rw there refl))

-- so does a line that takes a process back that has no further incarnation
pub spent_refused : (machine : Machine) (failed : List Bool) (plan : Plan) → has_stranger machine
    failed ≡ false → IsPlan machine failed plan → (HaveFurther machine.history plan.line → ⊥)
    → MayAnswer machine (Recover failed) (answers.Refused NoMoreIncarnations)
spent_refused machine failed plan known is spent = (
  machine,
  (
    subst (IsRefused machine (Recover failed) NoMoreIncarnations) (sym (may_recover machine failed
        known)) (record { line = plan.line; latest = is.latest; spent = spent }),
    refl,
  ),
)

-- what is kept may answer a recovery so, and then the machine that lets go may, in names and
-- numbers of the whole
pub brought_back : (live : LiveMachine) (failed : List Bool) (told : Answer) → MayAnswer live.kept
    (Recover failed) told → LiveMayAnswer live (Recover failed) (whole_answer live.floor told)
brought_back live failed told (after, takes) = (
  record { floor = live.floor; kept = after },
  record
      { told = told; takes = takes; brought_back = refl; floor_is = refl },
)

-- what a recovery would be answered was written
pub planned_does : (old : LiveMachine) (failed : List Bool) (answer : Answer)
    (taken now : Option (List ℕ)) (held later text : List ℕ)
    → LiveMayAnswer old (Recover failed) answer → records_text (planned_records answer) ≡ text
    → PutsButEnd taken now later (held ++ text) → DoesCommand old
    (commands.Plan failed) old taken now held later (is_refused (Planned answer))
planned_does old failed answer taken now held later text may same put = does old old
    (commands.Plan failed) (Planned answer) taken now held later text (may, refl) same put

pub planned_front : (old : LiveMachine) (failed : List Bool) (answer : Answer)
    (taken now : Option (List ℕ)) (held text : List ℕ) → LiveMayAnswer old (Recover failed) answer
    → records_text (planned_records answer) ≡ text
    → PutsFront taken now (held ++ text) → DoesFront old (commands.Plan failed) old taken now held
planned_front old failed answer taken now held text may same put = does_front old old
    (commands.Plan failed) (Planned answer) taken now held text (may, refl) same put

-- a refusal that was written
pub refused_text : (error : StepError) (code : ℕ) → code ≡ refusal_code error
    → records_text (planned_records (answers.Refused error)) ≡ record_text (refused_record code)
refused_text error code same = one_text (refused_record (refusal_code error)) ∙ ap
    (λ (i : ℕ). record_text (refused_record i)) (sym same)

-- what is told of everybody is what `live` is told
pub tells_live : (old new : LiveMachine) (failed : List Bool) (told : CommandAnswer)
    → IsEverybody (length old.kept.history) failed → Tells old (commands.Plan failed) told new
    → Tells old commands.Live told new
tells_live old new failed (Planned answer) all tells = ((failed, all, tells.0), tells.1)
tells_live old new failed (Answered answer) all tells = absurd tells
tells_live old new failed (Refused code) all tells = absurd tells
tells_live old new failed (Listing floor n rounds) all tells = absurd tells
tells_live old new failed (Shown floors history) all tells = absurd tells
tells_live old new failed (Claimed floors history claim) all tells = absurd tells
tells_live old new failed (Judged floors history claim) all tells = absurd tells
tells_live old new failed (Forgot round floors) all tells = absurd tells
tells_live old new failed (Saved parts) all tells = absurd tells

pub live_does : (old : LiveMachine) (failed : List Bool) (taken now : Option (List ℕ))
    (held later : List ℕ) (refused : Bool) → IsEverybody (length old.kept.history) failed
    → DoesCommand old (commands.Plan failed) old taken now held later refused
    → DoesCommand old commands.Live old taken now held later refused
live_does old failed taken now held later refused all h = record {
  told = h.told;
  tells = tells_live
      old old failed h.told all h.tells;
  counted = h.counted;
  put = h.put;
}

pub live_front : (old : LiveMachine) (failed : List Bool) (taken now : Option (List ℕ))
    (held : List ℕ) → IsEverybody (length old.kept.history) failed → DoesFront old
    (commands.Plan failed) old taken now held → DoesFront old commands.Live old taken now held
live_front old failed taken now held all h =
    record { told = h.told; tells = tells_live old old failed h.told all h.tells; put = h.put }

-- the whole claim of a plan, and of its refusal
abbrev whole_claim_of : Machine → List Bool → Plan → Claim
whole_claim_of machine failed plan = record {
  marks = in_order machine.history machine.marks;
  failed = failed;
  line = plan.line;
  certificate = plan.certificate.items;
  starts = starts_due machine.history plan.line;
  replays = replays_due machine.history plan.line;
}

abbrev whole_text : LiveMachine → List Bool → Plan → List ℕ
whole_text live failed plan = records_text
    (claimed_records 3 (floors_gone live) live.kept.history (whole_claim_of live.kept failed plan))

pub judged_does : (old : LiveMachine) (failed : List Bool) (plan : Plan)
    (taken now : Option (List ℕ)) (held later text : List ℕ) → IsPlanToRecover old.kept failed plan
    → whole_text old failed plan ≡ text → PutsButEnd taken now later (held ++ text)
    → DoesCommand old (commands.Answer failed) old taken now held later false
judged_does old failed plan taken now held later text is same put =
    does old old (commands.Answer failed)
    (Judged (floors_gone old) old.kept.history (whole_claim_of old.kept failed plan)) taken now
    held later text
    (refl, refl, record { plan = plan; planned = is; claim_is = refl }, refl) same put

pub judged_front : (old : LiveMachine) (failed : List Bool) (plan : Plan)
    (taken now : Option (List ℕ)) (held text : List ℕ) → IsPlanToRecover old.kept failed plan
    → whole_text old failed plan ≡ text → PutsFront taken now (held ++ text)
    → DoesFront old (commands.Answer failed) old taken now held
judged_front old failed plan taken now held text is same put =
    does_front old old (commands.Answer failed)
    (Judged (floors_gone old) old.kept.history (whole_claim_of old.kept failed plan)) taken now
    held text (refl, refl, record { plan = plan; planned = is; claim_is = refl }, refl) same put

pub unjudged_does : (old : LiveMachine) (failed : List Bool) (error : StepError) (code : ℕ)
    (taken now : Option (List ℕ)) (held later : List ℕ)
    → LiveMayAnswer old (Recover failed) (answers.Refused error) → code ≡ refusal_code error
    → PutsButEnd taken now later (held ++ record_text (refused_record code))
    → DoesCommand old (commands.Answer failed) old taken now held later true
unjudged_does old failed error code taken now held later may same put =
    does old old (commands.Answer failed) (Planned (answers.Refused error)) taken now held later
    (record_text (refused_record code)) (may, refl) (refused_text error code same) put

pub unjudged_front : (old : LiveMachine) (failed : List Bool) (error : StepError) (code : ℕ)
    (taken now : Option (List ℕ)) (held : List ℕ)
    → LiveMayAnswer old (Recover failed) (answers.Refused error) → code ≡ refusal_code error
    → PutsFront taken now (held ++ record_text (refused_record code))
    → DoesFront old (commands.Answer failed) old taken now held
unjudged_front old failed error code taken now held may same put =
    does_front old old (commands.Answer failed) (Planned (answers.Refused error)) taken now held
    (record_text (refused_record code)) (may, refl) (refused_text error code same) put

-- the text of the whole claim, of what is lent of the machine and of the plan
pub whole_text_of : (old : LiveMachine) (failed : List Bool) (plan : Plan) (marks : MarksView)
    (line : List Choice) (certificate : List Passed)
    → marks ≡ old.kept.marks → line ≡ plan.line → certificate ≡ plan.certificate.items
    → whole_text old failed plan
    ≡ records_text (claimed_records 3 (floors_gone old) old.kept.history
    (whole_claim old.kept.history (in_order old.kept.history marks) failed line certificate))
whole_text_of old failed plan marks line certificate same_marks same_line same_entries =
    rw (same_marks, same_line, same_entries) refl
