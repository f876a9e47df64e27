-- What commands are told, and what is written of that.
use Rattle.std.specs.Prelude.{IsTrue, ◌≡◌, ◌↔◌, ℕ, ◌<◌, ◌++◌, Bool, true, false, List, [], ◌∷◌}
use Rattle.std.specs.Prelude.{length, map, not, ◌==◌, ◌||◌, if◌then◌else◌, Option, Some, None}
use Rattle.std.specs.Prelude.{codes}
use Rattle.std.specs.List.{count_by, flat_map, list_any}
use Rattle.line_claims.specs.Claims.{Claim}
use Rattle.line_check.specs.Answers.{replays_due, starts_due}
use Rattle.line_claims.specs.declared.versions.TheConstants.{LAST_CHECK_VERSION}
use Rattle.line_claims.specs.Records.{check_records_in, floors_at, floors_records, front_records}
use Rattle.line_claims.specs.Records.{in_order, number_text, version_of}
use Rattle.line_claims.specs.Versions.{earliest_version}
use Rattle.line_cuts.specs.Cuts.{Floor}
use Rattle.line_live.specs.declared.refusals.ForgetError.{ForgetError}
use Rattle.line_live.specs.declared.refusals.ForgetError.TheVariants as forgets
use Rattle.line_live.specs.Forgets.{idle_refusal}
use Rattle.line_live.specs.Lives.{ForgetsLive, ForgetsRound, IsLineKept, IsRoundKept, LiveMachine}
use Rattle.line_live.specs.Lives.{TakesLive}
use Rattle.line_fields.specs.declared.faults.Fault.TheVariants.{NoSuchProcess}
use Rattle.line_fields.specs.Faults.{code_of}
use Rattle.line_fields.specs.Records.{Record}
use Rattle.line_fields.specs.Texts.{records_text}
use Rattle.line_world.specs.declared.replies.Answer.{Answer}
use Rattle.line_world.specs.declared.replies.Answer.TheVariants as answers
use Rattle.line_moves.specs.Listed.{ListedRound}
use Rattle.line_world.specs.Machine.{Machine, is_open}
use Rattle.line_plan.specs.declared.plans.Plan.{Plan}
use Rattle.line_names.specs.Sets.{is_member}
use Rattle.line_tape.specs.declared.steps.Step.{Step}
use Rattle.line_tape.specs.declared.steps.Step.TheVariants.{Recover}
use Rattle.line_tape.specs.History.{Process}
use Rattle.line_tape.specs.Restart.{HaveFurther}
use Rattle.line_world.specs.Refusals.{has_stranger}
use Rattle.line_world.specs.Runs.{Takes}
use Rattle.line_world.specs.Steps.{IsPlan}
use Rattle.line_scripts.specs.declared.commands.Command.{Command}
use Rattle.line_scripts.specs.declared.commands.Command.TheVariants as commands
use Rattle.line_text.specs.Replies.{answer_records, planned_records, refusal_record}
use Rattle.line_text.specs.Rounds.{rounds_records}
use Rattle.line_claims.specs.Saved.{SavedParts, saved_records}
use Rattle.line_devices.specs.Devices.{PutsButEnd, PutsFront}

-- what a command is told: the machine's answer, the number of its refusal before any step, rounds
-- of what a floor left among so many processes, a history, a history with a claim on it, what a
-- recovery would be answered, or a history with a claim that has all of such an answer, each of
-- these histories with what was let go of each process where a check or a send was; what was let
-- go; or the machine as it is saved
pub data CommandAnswer : Type 0 where
  Answered : Answer → CommandAnswer
  Refused : ℕ → CommandAnswer
  Listing : Floor → ℕ → List ListedRound → CommandAnswer
  Shown : Option (List (ℕ × ℕ)) → List Process → CommandAnswer
  Claimed : Option (List (ℕ × ℕ)) → List Process → Claim → CommandAnswer
  Planned : Answer → CommandAnswer
  Judged : Option (List (ℕ × ℕ)) → List Process → Claim → CommandAnswer
  Forgot : Option ℕ → List (ℕ × ℕ) → CommandAnswer
  Saved : SavedParts → CommandAnswer

-- the version of a text: 4 where it tells what was let go, and else as given
abbrev pub version_told : ℕ → Option (List (ℕ × ℕ)) → ℕ
version_told version None = version
version_told version (Some floors) = LAST_CHECK_VERSION

-- what it tells was let go
abbrev pub floors_told : Option (List (ℕ × ℕ)) → List (ℕ × ℕ)
floors_told None = []
floors_told (Some floors) = floors

-- the records of a history alone
abbrev pub shown_records : Option (List (ℕ × ℕ)) → List Process → List Record
shown_records floors history =
    front_records (version_told (earliest_version (length history)) floors) (floors_told floors)
    history

-- the records of a history with a claim on it, in a version
abbrev pub claimed_records : ℕ → Option (List (ℕ × ℕ)) → List Process → Claim → List Record
claimed_records version floors history claim =
    check_records_in (version_told version floors) (floors_told floors) history claim

-- forgot,R: the round, or `-` where none was named
abbrev pub forgot_record : Option ℕ → Record
forgot_record round = codes "forgot" ∷ number_text round ∷ []

-- the records of what a command is told
abbrev pub command_answer_records : CommandAnswer → List Record
command_answer_records (Answered answer) = answer_records answer
command_answer_records (Refused code) = refusal_record code ∷ []
command_answer_records (Listing floor n rounds) = rounds_records floor n rounds
command_answer_records (Shown floors history) = shown_records floors history
command_answer_records (Claimed floors history claim) =
    claimed_records (version_of claim.marks) floors history claim
command_answer_records (Planned answer) = planned_records answer
command_answer_records (Judged floors history claim) = claimed_records 3 floors history claim
command_answer_records (Forgot round floors) = forgot_record round ∷ floors_records 0 floors
command_answer_records (Saved parts) = saved_records parts

-- a command was refused, by the machine or before any step
abbrev pub is_refused : CommandAnswer → Bool
is_refused (Answered (answers.Done reply)) = false
is_refused (Answered (answers.Refused error)) = true
is_refused (Refused code) = true
is_refused (Listing floor n rounds) = false
is_refused (Shown floors history) = false
is_refused (Claimed floors history claim) = false
is_refused (Planned (answers.Done reply)) = false
is_refused (Planned (answers.Refused error)) = true
is_refused (Judged floors history claim) = false
is_refused (Forgot round floors) = false
is_refused (Saved parts) = false

-- the claim of a plan for these failed: the machine's marks in order, and the plan's line and
-- certificate
pub record IsClaimFor (machine : Machine) (failed : List Bool) (claim : Claim) : Type 0 where
  pub there : IsTrue (has_stranger machine failed) → ⊥
  pub plan : Plan
  pub planned : IsPlan machine failed plan
  pub claim_is : claim
      ≡ record {
        marks = in_order machine.history machine.marks;
        failed = failed;
        line = plan.line;
        certificate = plan.certificate.items;
        starts = [];
        replays = [];
      }

-- the machine may give this answer to the step, whatever the step would leave
abbrev pub MayAnswer : Machine → Step → Answer → Type 0
MayAnswer machine step answer = (after : Machine) × Takes machine step answer after

-- the plan that a recovery where these processes failed would go on from
pub record IsPlanToRecover (machine : Machine) (failed : List Bool) (plan : Plan) : Type 0 where
  pub there : has_stranger machine failed ≡ false
  pub planned : IsPlan machine failed plan
  pub further : HaveFurther machine.history plan.line

-- the claim of such a plan, with where each process goes on and what is sent again
pub record IsWholeClaimFor (machine : Machine) (failed : List Bool) (claim : Claim) : Type 0 where
  pub plan : Plan
  pub planned : IsPlanToRecover machine failed plan
  pub claim_is : claim
      ≡ record {
        marks = in_order machine.history machine.marks;
        failed = failed;
        line = plan.line;
        certificate = plan.certificate.items;
        starts = starts_due machine.history plan.line;
        replays = replays_due machine.history plan.line;
      }

-- the set has the first n processes, and no other
abbrev pub IsEverybody : ℕ → List Bool → Type 0
IsEverybody n set = (p : ℕ) → IsTrue (is_member set p) ↔ (p < n)

-- the machine that lets go may give this answer to the step, whatever the step would leave
abbrev pub LiveMayAnswer : LiveMachine → Step → Answer → Type 0
LiveMayAnswer live step answer = (after : LiveMachine) × TakesLive live step answer after

-- it may give this answer to a recovery where every process failed
abbrev pub MayAnswerAll : LiveMachine → Answer → Type 0
MayAnswerAll live answer =
    (failed : List Bool) × IsEverybody (length live.kept.history) failed
    × LiveMayAnswer live (Recover failed) answer

-- one of these numbers is not 0
abbrev pub has_some : List ℕ → Bool
has_some numbers = list_any (λ number. not (number == 0)) numbers

-- a check or a send stands before the floor
abbrev pub is_above : Floor → Bool
is_above floor = has_some floor.checks || has_some floor.sends

-- what was let go of each of n processes before the floor
abbrev pub floors_before : ℕ → Floor → List (ℕ × ℕ)
floors_before n floor = floors_at n floor.checks floor.sends

-- the same, where a check or a send was
abbrev pub floors_above : ℕ → Floor → Option (List (ℕ × ℕ))
floors_above n floor = if is_above floor then Some (floors_before n floor) else None

-- what was let go of each process of a machine, in all
abbrev pub floors_of_live : LiveMachine → List (ℕ × ℕ)
floors_of_live live = floors_before (length live.kept.history) live.floor

-- the same, where a check or a send was
abbrev pub floors_gone : LiveMachine → Option (List (ℕ × ℕ))
floors_gone live = floors_above (length live.kept.history) live.floor

-- what stands before the listed round of that number is let go, or without one what stands before
-- the line where each process fails
abbrev pub Forgets : LiveMachine → Option ℕ → LiveMachine → Type 0
Forgets old None new = ForgetsLive old new
Forgets old (Some round) new = ForgetsRound old round new

-- it is kept, by that cause
abbrev pub IsKeptBy : LiveMachine → Option ℕ → ForgetError → Type 0
IsKeptBy live None error = IsLineKept live error
IsKeptBy live (Some round) error = IsRoundKept live round error

-- the number of a cause
abbrev pub forget_code : ForgetError → ℕ
forget_code forgets.OutOfMemory = 0
forget_code forgets.WrongMode = 22
forget_code forgets.RoundOpen = 20
forget_code forgets.NoSuchRound = 48
forget_code forgets.RoundLost = 49
forget_code forgets.NoMoreNumbers = 50

-- by a cause of this number
pub record IsKeptByCode (live : LiveMachine) (round : Option ℕ) (code : ℕ) : Type 0 where
  pub error : ForgetError
  pub kept : IsKeptBy live round error
  pub code_is : code ≡ forget_code error

-- why a machine is not saved: links that keep no order, or else a round that is open
abbrev pub save_refusal : LiveMachine → Option ForgetError
save_refusal live = idle_refusal live.kept.mode (is_open live.kept) None

-- it is not saved, by the cause of this number
pub record IsUnsavedByCode (live : LiveMachine) (code : ℕ) : Type 0 where
  pub error : ForgetError
  pub cause : save_refusal live ≡ Some error
  pub code_is : code ≡ forget_code error

-- a listed round as it is saved: its number, and its checks
abbrev pub saved_round : ListedRound → ℕ × List ℕ
saved_round round = (round.number, round.checks)

-- all that is saved of a machine: what it keeps, and what was let go before that
abbrev pub saved_parts_of : LiveMachine → SavedParts
saved_parts_of live = record {
  floors = floors_of_live live;
  history = live.kept.history;
  marks = in_order live.kept.history live.kept.marks;
  rounds = map saved_round live.kept.rounds;
  last = live.kept.last_round;
}

-- from old, a command may be told this, and leaves new
abbrev pub Tells : LiveMachine → Command → CommandAnswer → LiveMachine → Type 0
Tells old (commands.Do step) (Answered answer) new = TakesLive old step answer new
Tells old (commands.Refused code) (Refused shown) new = (shown ≡ code) × (new ≡ old)
Tells old commands.Rounds (Listing floor n rounds) new =
    (floor ≡ old.floor) × (n ≡ length old.kept.history) × (rounds ≡ old.kept.rounds) × (new ≡ old)
Tells old commands.History (Shown floors history) new =
    (floors ≡ floors_gone old) × (history ≡ old.kept.history) × (new ≡ old)
Tells old (commands.Bundle failed) (Claimed floors history claim) new =
    (floors ≡ floors_gone old) × (history ≡ old.kept.history) × IsClaimFor old.kept failed claim
    × (new ≡ old)
Tells old (commands.Bundle failed) (Refused code) new =
    IsTrue (has_stranger old.kept failed) × (code ≡ code_of NoSuchProcess) × (new ≡ old)
Tells old (commands.Plan failed) (Planned answer) new =
    LiveMayAnswer old (Recover failed) answer × (new ≡ old)
Tells old commands.Live (Planned answer) new = MayAnswerAll old answer × (new ≡ old)
Tells old (commands.Answer failed) (Judged floors history claim) new =
    (floors ≡ floors_gone old) × (history ≡ old.kept.history)
    × IsWholeClaimFor old.kept failed claim × (new ≡ old)
Tells old (commands.Answer failed) (Planned (answers.Refused error)) new =
    LiveMayAnswer old (Recover failed) (answers.Refused error) × (new ≡ old)
Tells old (commands.Forget round) (Forgot named floors) new =
    (named ≡ round) × Forgets old round new × (floors ≡ floors_of_live new)
Tells old (commands.Forget round) (Refused code) new = IsKeptByCode old round code × (new ≡ old)
Tells old commands.Save (Saved parts) new =
    (save_refusal old ≡ None) × (parts ≡ saved_parts_of old) × (new ≡ old)
Tells old commands.Save (Refused code) new = IsUnsavedByCode old code × (new ≡ old)
Tells old command told new = ⊥

-- from old, commands may be told these, one after another
abbrev pub TellsAll : LiveMachine → List Command → List CommandAnswer → LiveMachine → Type 0
TellsAll old [] [] new = new ≡ old
TellsAll old (command ∷ commands) (one ∷ others) new =
    (mid : LiveMachine) × Tells old command one mid × TellsAll mid commands others new
TellsAll old [] (one ∷ others) new = ⊥
TellsAll old (command ∷ commands) [] new = ⊥

-- the text of what commands are told
abbrev pub text_of : List CommandAnswer → List ℕ
text_of all = records_text (flat_map command_answer_records all)

-- how many of them are refusals
abbrev pub refusals : List CommandAnswer → ℕ
refusals all = count_by is_refused all

-- a command was told something, and whether it was refused; what was held and the text of that are
-- put but for their end, which is held
pub record DoesCommand (old : LiveMachine) (command : Command) (new : LiveMachine)
    (taken now : Option (List ℕ))
    (held later : List ℕ) (refused : Bool) : Type 0 where
  pub told : CommandAnswer
  pub tells : Tells old command told new
  pub counted : refused ≡ is_refused told
  pub put : PutsButEnd taken now later (held ++ records_text (command_answer_records told))

-- a command was told something, and of what was held and the text of that a front was put
pub record DoesFront (old : LiveMachine) (command : Command) (new : LiveMachine)
    (taken now : Option (List ℕ)) (held : List ℕ) : Type 0 where
  pub told : CommandAnswer
  pub tells : Tells old command told new
  pub put : PutsFront taken now (held ++ records_text (command_answer_records told))
