-- A machine that has let go what stands before a floor, beside the machine that keeps everything.
use Rattle.std.specs.Prelude.{◌≡◌, ◌≢◌, ◌⊎◌, ◌-◌, ◌+◌, ◌<◌, ◌≤◌, ℕ, nat_le, Bool, true, false}
use Rattle.std.specs.Prelude.{IsTrue, All, List, [], ◌∷◌, length, map, filter, Some, None}
use Rattle.std.specs.List.{list_all, range_with_len}
use Rattle.std.proofs.Common.{sym, ◌∙◌}
use Rattle.std.proofs.lemmas.List.{length-map}
use Rattle.line_tape.specs.declared.items.Item.{Item}
use Rattle.line_tape.specs.declared.items.Item.TheVariants.{Message, Marker}
use Rattle.line_tape.specs.Fit.{IsFitFifo, link}
use Rattle.line_tape.specs.History.{tape_at}
use Rattle.line_tape.specs.Rounds.{has_check_of, is_completed_fifo}
use Rattle.line_plan.specs.declared.plans.Plan.{Plan}
use Rattle.line_tape.specs.declared.modes.Mode.TheVariants.{Fifo}
use Rattle.line_tape.specs.declared.steps.Step.{Step}
use Rattle.line_tape.specs.declared.steps.Step.TheVariants.{Send, Deliver, Check, Begin, Turn}
use Rattle.line_tape.specs.declared.steps.Step.TheVariants.{Damage, Bar, Recover}
use Rattle.line_moves.specs.Listed.{ListedRound, check_in, is_begun}
use Rattle.line_world.specs.declared.replies.Answer.{Answer}
use Rattle.line_world.specs.declared.replies.Answer.TheVariants.{Done, Refused}
use Rattle.line_world.specs.declared.replies.Reply.{Reply}
use Rattle.line_world.specs.declared.replies.Reply.TheVariants.{Sent, Took, Marked, Stale, Repeated}
use Rattle.line_world.specs.declared.replies.Reply.TheVariants.{Checked, Begun, Turned, Damaged}
use Rattle.line_world.specs.declared.replies.Reply.TheVariants.{Barred, Recovered}
use Rattle.line_world.specs.declared.replies.StepError.TheVariants.{TapeFull}
use Rattle.line_world.specs.Machine.{Machine, is_open}
use Rattle.line_world.specs.Refusals.{refusal_of, IsRefused}
use Rattle.line_world.specs.Sound.{IsSound}
use Rattle.line_world.specs.Steps.{Does}
use Rattle.line_cuts.specs.Cuts.{Floor, floor_check, lost_checks, is_left, cut_name, cut_history}
use Rattle.line_cuts.specs.Cuts.{cut_marks, whole_name, whole_entry, whole_line}
use Rattle.line_cuts.specs.Cuts.{IsFloor, FloorSurvives, HasOldRounds}

-- a listed round stays listed if none of its checks is before the floor
abbrev pub is_listed_on : Floor → ListedRound → Bool
is_listed_on floor round =
    list_all (λ p. nat_le (floor_check floor p) (check_in round p))
    (range_with_len 0 (length floor.checks))

-- a listed round, in the names and numbers of what is left
abbrev pub cut_listed : Floor → ListedRound → ListedRound
cut_listed floor round = record {
  number = round.number;
  checks = map (λ p. check_in round p - lost_checks floor p)
      (range_with_len 0 (length round.checks));
  channels = map (λ row. map (λ messages. map (cut_name floor) messages) row) round.channels;
}

-- the machine that has let go what stands before the floor
abbrev pub cut_machine : Floor → Machine → Machine
cut_machine floor machine = record machine {
  history = cut_history floor machine.history;
  marks = cut_marks floor machine.marks;
  rounds = map (cut_listed floor) (filter (is_listed_on floor) machine.rounds);
}

-- a step as that machine is asked to do it
abbrev pub cut_step : Floor → Step → Step
cut_step floor (Send from to body) = Send from to body
cut_step floor (Deliver from to pick state) = Deliver from to pick state
cut_step floor (Check at state) = Check at state
cut_step floor (Begin at state) = Begin at state
cut_step floor (Turn at state) = Turn at state
cut_step floor (Damage at check) = Damage at (check - lost_checks floor at)
cut_step floor (Bar at check) = Bar at (check - lost_checks floor at)
cut_step floor (Recover failed) = Recover failed

-- the step damages no check up to the floor, and bars none below it
abbrev pub SparesFloor : Floor → Step → Type 0
SparesFloor floor (Send from to body) = Unit {0}
SparesFloor floor (Deliver from to pick state) = Unit {0}
SparesFloor floor (Check at state) = Unit {0}
SparesFloor floor (Begin at state) = Unit {0}
SparesFloor floor (Turn at state) = Unit {0}
SparesFloor floor (Damage at check) = floor_check floor at < check
SparesFloor floor (Bar at check) = floor_check floor at ≤ check
SparesFloor floor (Recover failed) = Unit {0}

-- a plan of that machine, in the names and numbers of the whole
abbrev pub whole_plan : Floor → Plan → Plan
whole_plan floor plan = record plan {
  line = whole_line floor plan.line;
  certificate = record plan.certificate {
    items = map (whole_entry floor) plan.certificate.items;
    ok = (
      plan.certificate.ok.0 ∙ sym (length-map plan.certificate.items (whole_entry floor)),
      plan.certificate.ok.1,
    );
  };
  replays = record plan.replays {
    items = map (whole_name floor) plan.replays.items;
    ok = (
      plan.replays.ok.0 ∙ sym (length-map plan.replays.items (whole_name floor)),
      plan.replays.ok.1,
    );
  };
}

-- and what it replies
abbrev pub whole_reply : Floor → Reply → Reply
whole_reply floor (Sent message) = Sent (whole_name floor message)
whole_reply floor (Took message forced) = Took (whole_name floor message) forced
whole_reply floor (Marked round forced) = Marked round forced
whole_reply floor (Stale message) = Stale (whole_name floor message)
whole_reply floor (Repeated message) = Repeated (whole_name floor message)
whole_reply floor (Checked at check) = Checked at (check + lost_checks floor at)
whole_reply floor (Begun at check round) = Begun at (check + lost_checks floor at) round
whole_reply floor (Turned at check round) = Turned at (check + lost_checks floor at) round
whole_reply floor (Damaged at check) = Damaged at (check + lost_checks floor at)
whole_reply floor (Barred at check) = Barred at (check + lost_checks floor at)
whole_reply floor (Recovered plan states incarnations) =
    Recovered (record plan { value = whole_plan floor plan.value }) states incarnations

-- and what it answers
abbrev pub whole_answer : Floor → Answer → Answer
whole_answer floor (Done reply) = Done (whole_reply floor reply)
whole_answer floor (Refused e) = Refused e

-- the item is one that is left
abbrev pub IsItemLeft : Floor → Item → Type 0
IsItemLeft floor (Message message) = is_left floor message ≡ true
IsItemLeft floor (Marker round) = floor.round < round

-- what stays true of the machine that keeps everything, beside the one that does not: its links
-- keep their order and hold nothing that is let go, the floor is one and survives, no round is
-- begun after the last one, and each but that, and each up to the floor's, is completed or given up
pub record IsBeside (floor : Floor) (machine : Machine) : Type 0 where
  pub mode : machine.mode ≡ Fifo
  pub fit : IsFitFifo machine.history
  pub marked : length machine.marks.damaged ≡ length machine.history
  pub is : IsFloor machine.history floor
  pub stays : FloorSurvives machine.history machine.marks floor
  pub old : HasOldRounds machine.history floor
  pub round : floor.round ≤ machine.last_round
  pub greatest : (p r : ℕ) → IsTrue (has_check_of r (tape_at machine.history p))
      → r ≤ machine.last_round
  pub links : (p q : ℕ) → p < length machine.history → q < length machine.history → p ≢ q
      → All (IsItemLeft floor) (link machine.history p q)
  pub others : (r : ℕ) → r ≢ machine.last_round → IsTrue (is_begun machine.history r)
      → IsTrue (is_completed_fifo machine.history r)
  pub closed : (r : ℕ) → r ≤ floor.round → IsTrue (is_begun machine.history r)
      → IsTrue (is_completed_fifo machine.history r)

-- the machine may let go what stands before the floor: its links keep their order, what every run
-- keeps true of rounds holds, no round is open, and the floor is one that survives, of the last
-- round begun
pub record MayForget (floor : Floor) (machine : Machine) : Type 0 where
  pub mode : machine.mode ≡ Fifo
  pub sound : IsSound machine
  pub marked : length machine.marks.damaged ≡ length machine.history
  pub idle : is_open machine ≡ false
  pub last : floor.round ≡ machine.last_round
  pub is : IsFloor machine.history floor
  pub stays : FloorSurvives machine.history machine.marks floor

-- the machine may give this answer to the step, and go on to new, if its tapes were never full
abbrev pub TakesWithRoom : Machine → Step → Answer → Machine → Type 0
TakesWithRoom old step (Done reply) new =
    ((refusal_of old step ≡ None) ⊎ (refusal_of old step ≡ Some TapeFull))
    × Does old step reply new
TakesWithRoom old step (Refused e) new = IsRefused old step e (refusal_of old step) × (new ≡ old)

-- the machine that keeps everything may answer the same, and stays beside the other
pub record AnswersAlike (floor : Floor) (old : Machine) (step : Step) (answer : Answer)
    (cut : Machine) : Type 0 where
  pub new : Machine
  pub takes : TakesWithRoom old step (whole_answer floor answer) new
  pub beside : IsBeside floor new
  pub same : cut ≡ cut_machine floor new

-- the machine may give these answers to these steps, one after another, if its tapes were never
-- full
abbrev pub RunsWithRoom : Machine → List Step → List Answer → Machine → Type 0
RunsWithRoom old [] [] new = new ≡ old
RunsWithRoom old (step ∷ steps) (answer ∷ answers) new =
    (mid : Machine) × TakesWithRoom old step answer mid × RunsWithRoom mid steps answers new
RunsWithRoom old [] (answer ∷ answers) new = ⊥
RunsWithRoom old (step ∷ steps) [] new = ⊥

-- the machine that keeps everything may answer a run the same, and stays beside the other
pub record RunsAlike (floor : Floor) (old : Machine) (steps : List Step) (answers : List Answer)
    (cut : Machine) : Type 0 where
  pub new : Machine
  pub runs : RunsWithRoom old steps (map (whole_answer floor) answers) new
  pub beside : IsBeside floor new
  pub same : cut ≡ cut_machine floor new

-- a further floor of what the first one leaves: both have a check for each process of the machine,
-- which shows marks, bars and listed rounds of as many; who has left its initial state does not
-- come back to it, and rounds go on
pub record IsFurther (floor later : Floor) (machine : Machine) : Type 0 where
  pub first : length floor.checks ≡ length machine.history
  pub checks : length later.checks ≡ length machine.history
  pub sends : length floor.sends ≡ length later.sends
  pub some : (p : ℕ) → p < length machine.history → 1 ≤ floor_check floor p
      → 1 ≤ floor_check later p
  pub rising : floor.round ≤ later.round
  pub marked : length machine.marks.damaged ≡ length machine.history
  pub barred : length machine.marks.bars ≡ length machine.history
  pub listed : All (λ (round : ListedRound). length round.checks ≡ length machine.history)
      machine.rounds
