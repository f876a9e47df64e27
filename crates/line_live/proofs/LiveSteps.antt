-- A step of the world that is kept is one of the machine that lets go.
use Rattle.std.proofs.Common.{◌≡◌, ◌≢◌, ℕ, Bool, true, false, not, List, length, map, Option, None}
use Rattle.std.proofs.Common.{Some, Result, IfOk, IfErr, IsErrOf, refl, sym, ap, ◌∙◌, subst, arith}
use Rattle.std.proofs.Common.{inl, inr}
use Rattle.std.specs.List.{All}
use Rattle.std.proofs.lemmas.Bool.{cases_lt, false≢true, not-false}
use Rattle.std.proofs.lemmas.List.{get_or_past, get_or-replicate, length-replicate}
use Rattle.std.proofs.lemmas.List.Elements.{All-nil}
use Rattle.line_tape.specs.History.{Process, fresh}
use Rattle.line_tape.specs.Views.{MarksView}
use Rattle.line_tape.specs.declared.modes.Mode.{Mode}
use Rattle.line_tape.specs.declared.modes.Mode.TheVariants.{Fifo}
use Rattle.line_tape.specs.declared.steps.Step.{Step}
use Rattle.line_moves.specs.Listed.{ListedRound}
use Rattle.line_world.specs.declared.replies.Answer.{Answer}
use Rattle.line_world.specs.declared.replies.Answer.TheVariants.{Done, Refused}
use Rattle.line_world.specs.declared.replies.Reply.{Reply}
use Rattle.line_world.specs.declared.replies.StepError.{StepError}
use Rattle.line_world.specs.declared.replies.StepError.TheVariants.{OutOfMemory}
use Rattle.line_world.specs.Machine.{Machine, start}
use Rattle.line_world.specs.Runs.{Takes}
use Rattle.line_cuts.specs.Cuts.{Floor, floor_check}
use Rattle.line_cuts.specs.Floors.{first_floor, HasNumbers}
use Rattle.line_live.specs.CutMachines.{cut_step, whole_answer}
use Rattle.line_live.specs.Lived.{LetsNothingGo}
use Rattle.line_live.specs.Lives.{floor_refusal, LiveMachine, TakesLive, TakesUnless}
use Rattle.line_live.specs.Numbers.{IsTallied}
use Rattle.line_live.specs.Resumed.{resumed_round, AreChecks, CheckedRound, HasFloor}
use Rattle.line_live.specs.Resumed.{IsConsistentRound, IsFloorOfAll}
use Rattle.line_live.proofs.FirstFloors.{refusal_none, step_none}
use Rattle.line_live.proofs.HeldFloors.{held_taken, nothing_held}
use Rattle.line_live.proofs.ResumedLemmas.{resumed_checked}
use Rattle.line_live.proofs.ShapedMachines.{listed_taken, new_checked, stays_moded, takes_long}
use Rattle.line_live.proofs.ShapedMachines.{whatever}

-- the machine with this floor that keeps this world
abbrev pub living : Floor → Machine → LiveMachine
living floor kept = record { floor = floor; kept = kept }

first_size : (n : ℕ) → length (first_floor n).checks ≡ n
first_size n = length-replicate n 0

first_none : (n p : ℕ) → floor_check (first_floor n) p ≡ 0
first_none n p = elim (cases_lt p n) [
  | inl within ↦ get_or-replicate n p 0 0 within
  | inr past ↦ get_or_past (first_floor n).checks p 0 (omega (arith, past, first_size n))
]

-- nothing was let go of processes that have done nothing yet
pub tallied_start : (n : ℕ) (mode : Mode) (floor : Floor) (kept : Machine) → floor ≡ first_floor n
    → kept ≡ start n mode → IsTallied floor false kept
tallied_start n mode floor kept floor_is kept_is =
    let count : length (first_floor n).checks
    ≡ length (start n mode).history = first_size n ∙ sym (length-replicate n fresh) in
    let none : LetsNothingGo (first_floor n) = λ p. (first_none n p, first_none n p) in
    subst (λ (f : Floor). IsTallied f false kept) (sym floor_is)
    (subst (IsTallied (first_floor n) false) (sym kept_is) (record {
      numbers = λ p. (omega (arith, (none p).0), omega (arith, (none p).1));
      of_all = record { checks = count; sends = count };
      none = λ _. none;
      fifo = λ t. absurd (false≢true t);
      held = nothing_held (first_floor n) (start n mode).history (start n mode).marks none count;
      checked = All-nil (λ (round : ListedRound). AreChecks round.checks);
    }))

-- what a machine is opened of
pub tallied_resumed : (floor : Floor) (history : List Process) (marks : MarksView)
    (rounds : List CheckedRound) (nothing : Bool) (kept : Machine)
    → IsFloorOfAll (length history) floor → HasNumbers floor → HasFloor history marks floor
    → All (IsConsistentRound history) rounds → (nothing ≡ true → LetsNothingGo floor)
    → kept.mode ≡ Fifo → kept.history ≡ history → kept.marks ≡ marks
    → kept.rounds ≡ map (resumed_round history) rounds → IsTallied floor (not nothing) kept
tallied_resumed floor history marks rounds nothing kept of_all numbers held all none mode history_is
    marks_is rounds_are =
    record {
      numbers = numbers;
      of_all = subst (λ (h : List Process). IsFloorOfAll (length h) floor) (sym history_is) of_all;
      none = λ e. none (not-false nothing e);
      fifo = λ _. mode;
      held = subst (λ (h : List Process). HasFloor h kept.marks floor) (sym history_is)
          (subst (λ (m : MarksView). HasFloor history m floor) (sym marks_is) held);
      checked =
          subst (λ (rs : List ListedRound). All (λ (round : ListedRound). AreChecks round.checks)
          rs) (sym rounds_are) (resumed_checked history rounds all);
    }

-- a step of what is kept, by whatever name it is asked there, keeps all that is kept true
module _ (floor : Floor) (forgot : Bool) (old : Machine) (is : IsTallied floor forgot old) where
  tallied_taken : (step asked : Step) (answer : Answer) (new : Machine)
      → asked ≡ cut_step floor step → floor_refusal floor step ≡ None → Takes old asked answer new
      → IsTallied floor forgot new
  tallied_taken step asked answer new asked_is none takes = record {
    numbers = is.numbers;
    of_all = subst (λ (n : ℕ). IsFloorOfAll n floor)
        (sym (takes_long old asked answer new takes)) is.of_all;
    none = is.none;
    fifo = λ t. stays_moded old asked answer new takes ∙ is.fifo t;
    held = held_taken floor old is.held step answer new none
        (subst (λ (s : Step). Takes old s answer new) asked_is takes);
    checked = listed_taken (λ (round : ListedRound). AreChecks round.checks) new_checked old
        is.checked asked answer new takes;
  }

  by_refusal : (refusal : Option StepError) (step : Step) (answer : Answer) (new : Machine)
      → floor_refusal floor step ≡ refusal → TakesUnless refusal (living floor old) step answer
      (living floor new) → IsTallied floor forgot new
  by_refusal (Some e) step answer new refused takes =
      subst (IsTallied floor forgot) (sym (ap (λ (m : LiveMachine). m.kept) takes.1)) is
  by_refusal None step answer new none takes =
      tallied_taken step (cut_step floor step) takes.told new refl none takes.takes

  still_tallied : (step : Step) (answer : Answer) (new : Machine)
      → TakesLive (living floor old) step answer (living floor new) → IsTallied floor forgot new
  still_tallied step answer new takes =
      by_refusal (floor_refusal floor step) step answer new refl takes

  -- whatever comes of a step, even where memory is refused
  pub tallied_live : (step : Step) (new : Machine) (result : Result Reply StepError) → IfOk result
      (λ (reply : Reply). TakesLive (living floor old) step (Done reply) (living floor new))
      → IfErr result
      (λ (e : StepError). e ≢ OutOfMemory
      → TakesLive (living floor old) step (Refused e) (living floor new))
      → (IsErrOf result OutOfMemory → new ≡ old) → IsTallied floor forgot new
  tallied_live step new result done refused memory =
      whatever (IsTallied floor forgot new) (λ answer. TakesLive (living floor old) step answer
      (living floor new)) (λ answer. still_tallied step answer new) result done refused
      (λ out. subst (IsTallied floor forgot) (sym (memory out)) is)

  -- as long as nothing was let go, a step of the world that is kept
  pub tallied_first : LetsNothingGo floor → (step : Step) (new : Machine) (result : Result Reply
      StepError) → IfOk result (λ (reply : Reply). Takes old step (Done reply) new)
      → IfErr result (λ (e : StepError). e ≢ OutOfMemory → Takes old step (Refused e) new)
      → (IsErrOf result OutOfMemory → new ≡ old) → IsTallied floor forgot new
  tallied_first none step new result done refused memory =
      whatever (IsTallied floor forgot new) (λ answer. Takes old step answer new)
      (λ answer. tallied_taken step step answer new (sym (step_none floor none step))
      (refusal_none floor none step)) result done refused
      (λ out. subst (IsTallied floor forgot) (sym (memory out)) is)

pub takes_cut : (floor : Floor) (old new : Machine) (step : Step) (told : Answer)
    → floor_refusal floor step ≡ None → Takes old (cut_step floor step) told new
    → TakesLive (living floor old) step (whole_answer floor told) (living floor new)
takes_cut floor old new step told none takes =
    subst (λ (o : Option StepError). TakesUnless o (living floor old) step (whole_answer floor told)
    (living floor new)) (sym none)
    (record { told = told; takes = takes; brought_back = refl; floor_is = refl })
