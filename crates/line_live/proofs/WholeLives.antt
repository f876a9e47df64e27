-- The machine that lets go, beside the one that keeps everything: step by step, from floor to
-- floor,
-- and from the beginning.
use Rattle.std.proofs.Common.{◌≡◌, ◌⊎◌, ℕ, zero, suc, ◌+◌, ◌-◌, ◌<◌, ◌≤◌, Bool, true, false, ◌&&◌}
use Rattle.std.proofs.Common.{cond, List, [], ◌∷◌, length, map, replicate, get_or, Option, Some}
use Rattle.std.proofs.Common.{None, inl, inr, refl, sym, ap, ◌∙◌, subst, arith}
use Rattle.std.specs.Prelude.{nat_le, nat_lt}
use Rattle.std.specs.List.{All, filter, filter_map}
use Rattle.std.proofs.lemmas.Bool.{cases_lt, le-leb, leb-true, ltb-false}
use Rattle.std.proofs.lemmas.List.{length-map, length-replicate}
use Rattle.std.proofs.lemmas.List.Elements.{All-cons, All-head, All-nil, All-tail, All-weaker}
use Rattle.std.proofs.lemmas.List.FromFn.{length-map-range_with_len, get_or-map-range_with_len}
use Rattle.line_names.specs.declared.choices.Choice.{Choice}
use Rattle.line_names.specs.declared.choices.Choice.TheVariants.{Check as AtCheck}
use Rattle.line_tape.specs.History.{Process, fresh}
use Rattle.line_tape.specs.Rounds.{check_line}
use Rattle.line_tape.specs.Survival.{IsLatest}
use Rattle.line_laws.proofs.OrderLemmas.{ordered_fit}
use Rattle.line_laws.proofs.RoundLines.{in_range}
use Rattle.line_tape.specs.declared.modes.Mode.{Mode}
use Rattle.line_tape.specs.declared.steps.Step.{Step}
use Rattle.line_tape.specs.declared.steps.Step.TheVariants.{Send, Deliver, Check, Begin, Turn}
use Rattle.line_tape.specs.declared.steps.Step.TheVariants.{Damage, Bar, Recover}
use Rattle.line_moves.specs.Listed.{ListedRound, check_in}
use Rattle.line_world.specs.declared.replies.Answer.{Answer}
use Rattle.line_world.specs.declared.replies.Answer.TheVariants.{Done, Refused}
use Rattle.line_world.specs.declared.replies.StepError.{StepError}
use Rattle.line_world.specs.declared.replies.StepError.TheVariants.{InitialDamage, NoSuchCheck}
use Rattle.line_world.specs.declared.replies.StepError.TheVariants.{NoSuchProcess}
use Rattle.line_world.specs.Machine.{Machine, is_open, start}
use Rattle.line_world.specs.Refusals.{is_stranger, IsRefused}
use Rattle.line_world.specs.Runs.{Takes}
use Rattle.line_world.specs.Sound.{IsSound}
use Rattle.line_world.proofs.SoundFacts.{goes-taken, sound, Stands, Stands-start}
use Rattle.line_cuts.specs.Cuts.{Floor, FloorSurvives, IsFloor, cut_history, cut_marks, floor_check}
use Rattle.line_cuts.specs.Cuts.{floor_line, lost_checks, whole_floor}
use Rattle.line_cuts.proofs.LaterFloors.{later_stays}
use Rattle.line_cuts.proofs.LatestCuts.{length_history}
use Rattle.line_live.specs.CutMachines.{cut_listed, cut_machine, cut_step, is_listed_on}
use Rattle.line_live.specs.CutMachines.{whole_answer}
use Rattle.line_live.specs.CutMachines.{IsBeside, IsFurther, MayForget, RunsWithRoom, SparesFloor}
use Rattle.line_live.specs.CutMachines.{TakesWithRoom}
use Rattle.line_live.proofs.BeginLives.{begins_beside}
use Rattle.line_live.proofs.TwoForgets.{machine_both}
use Rattle.line_cuts.specs.Floors.{first_floor, floor_of_line, settled_sends}
use Rattle.line_live.specs.Forgets.{listed_of, round_refusal, IsFloorOfRound, IsFloorWhereAllFail}
use Rattle.line_live.specs.Lived.{answer_told, step_asked, IsLeftOf, IsLife, IsLifeOfWhole}
use Rattle.line_live.specs.Lived.{IsLivedStep, IsToldByWhole, LetsNothingGo, Lived}
use Rattle.line_live.specs.Lived.{Asked, ForgotLive, ForgotRound, Spared}
use Rattle.line_live.specs.Lives.{floor_refusal, start_live, ForgetsLive, ForgetsRound}
use Rattle.line_live.specs.Lives.{IsAnsweredByKept, LetsGo, LiveMachine, TakesLive, TakesUnless}
use Rattle.line_live.specs.Machines.{IsSameMachine}
use Rattle.line_live.proofs.AlikeLemmas.{kept_alike, kept_beside, machines_cut, same_through}
use Rattle.line_live.proofs.FirstFloors.{floor_none, takes_kept}
use Rattle.line_cuts.proofs.FloorLemmas.{line_of_checks}
use Rattle.line_live.proofs.ForgetLemmas.{idle_cases, indices_back, listed_one, may_line, may_round}
use Rattle.line_live.proofs.LiveFloors.{all_checks}
use Rattle.line_cuts.proofs.SameLemmas.{latest_line_same}
use Rattle.line_live.proofs.ShapedMachines.{starts_shaped, stays_long, stays_shaped, IsShaped}
use Rattle.line_live.proofs.ShapedMachines.{IsShapedRound}

-- an answer that is given where no tape is full is one that may be given
with_room : (old : Machine) (step : Step) (answer : Answer) (new : Machine)
    → Takes old step answer new → TakesWithRoom old step answer new
with_room old step (Done reply) new takes = (inl takes.0, takes.1)
with_room old step (Refused e) new takes = takes

-- where what was let go refuses no step, the step spares the floor, or damages an initial state
not_some : (e : StepError) → Some e ≡ None → ⊥
not_some e wrong = absurd (cc)

abbrev pub DamagesInitial : Floor → Step → Type 0
DamagesInitial floor step = (at : ℕ) × (step ≡ Damage at 0)

spares_damage : (floor : Floor) (at c : ℕ) → floor_refusal floor (Damage at c) ≡ None
    → SparesFloor floor (Damage at c) ⊎ DamagesInitial floor (Damage at c)
spares_damage floor at c none = elim (cases_lt (floor_check floor at) c) [
  | inl above ↦ inl above
  | inr low ↦ elim (cases_lt 0 (floor_check floor at)) [
    | inl some ↦ absurd (not_some InitialDamage (
        sym (ap (λ (b : Bool). cond b (Some InitialDamage) None)
        (ap (λ (b : Bool). b && nat_le c (floor_check floor at))
        (le-leb 1 (floor_check floor at) some) ∙ le-leb c (floor_check floor at) low)) ∙ none))
    | inr initial ↦ let zero_is : c ≡ 0 =
        omega arith in inr (at, ap (λ (k : ℕ). Damage at k) zero_is)
  ]
]

pub spares_bar : (floor : Floor) (at c : ℕ) → floor_refusal floor (Bar at c) ≡ None
    → floor_check floor at ≤ c
spares_bar floor at c none =
    ltb-false c (floor_check floor at) (off (nat_lt c (floor_check floor at)) none)
  where
    off : (b : Bool) → cond b (Some NoSuchCheck) None ≡ None → b ≡ false
    off true e = absurd (not_some NoSuchCheck e)
    off false e = refl

pub spares : (floor : Floor) (step : Step) → floor_refusal floor step ≡ None
    → SparesFloor floor step ⊎ DamagesInitial floor step
spares floor (Send from to body) none = inl tt
spares floor (Deliver from to pick state) none = inl tt
spares floor (Check at state) none = inl tt
spares floor (Begin at state) none = inl tt
spares floor (Turn at state) none = inl tt
spares floor (Damage at c) none = spares_damage floor at c none
spares floor (Bar at c) none = inl (spares_bar floor at c none)
spares floor (Recover failed) none = inl tt

-- an initial state is damaged nowhere
abbrev initial_refusal : Bool → Option StepError
initial_refusal stranger = cond stranger (Some NoSuchProcess) (Some InitialDamage)

initial_some : (stranger : Bool) → initial_refusal stranger ≡ None → ⊥
initial_some true e = not_some NoSuchProcess e
initial_some false e = not_some InitialDamage e

initial_same : (kept whole : Machine) (at : ℕ) (e : StepError) (stranger : Bool)
    → IsRefused kept (Damage at 0) e (initial_refusal stranger)
    → IsRefused whole (Damage at 0) e (initial_refusal stranger)
initial_same kept whole at e true refused = refused
initial_same kept whole at e false refused = refused

initial_told : (kept whole new : Machine) (at : ℕ) (told : Answer)
    → length kept.history ≡ length whole.history → Takes kept (Damage at 0) told new
    → TakesWithRoom whole (Damage at 0) told whole × (new ≡ kept)
initial_told kept whole new at (Done reply) long takes =
    absurd (initial_some (is_stranger kept at) takes.0)
initial_told kept whole new at (Refused e) long takes = (
  (
    subst (λ (n : ℕ). IsRefused whole (Damage at 0) e (initial_refusal (nat_le n at))) long
        (initial_same kept whole at e (is_stranger kept at) takes.0),
    refl,
  ),
  takes.1,
)

-- the two machines, and what every step keeps true of them
pub record IsAlongside (live : LiveMachine) (whole : Machine) : Type 0 where
  pub left : (LetsNothingGo live.floor × ((live.kept ≡ whole) × Stands whole))
      ⊎ (IsBeside live.floor whole × IsSameMachine live.kept (cut_machine live.floor whole))
  pub shaped : IsShaped whole
  pub sends : length live.floor.sends ≡ length whole.history

left_of : (live : LiveMachine) (whole : Machine)
    → (LetsNothingGo live.floor × ((live.kept ≡ whole) × Stands whole)) ⊎ (IsBeside live.floor whole
    × IsSameMachine live.kept (cut_machine live.floor whole)) → IsLeftOf live whole
left_of live whole (inl (none, (same, stands))) = inl (none, same)
left_of live whole (inr beside) = inr beside

-- a step that is answered by what is kept
record IsTold (whole : Machine) (step : Step) (answer : Answer) (new : LiveMachine)
    (IsLeft : LiveMachine → Machine → Type 0) : Type 0 where
  after : Machine
  takes : TakesWithRoom whole step answer after
  left : IsLeft new after

module _ (live new : LiveMachine) (whole : Machine) (step : Step) (answer : Answer)
    (is : IsAnsweredByKept live step answer new) where
  -- where nothing was let go
  told_first : LetsNothingGo live.floor → live.kept ≡ whole → Takes whole step answer new.kept
  told_first none same = subst (λ (m : Machine). Takes m step answer new.kept) same
      (takes_kept live.floor none live new step answer refl is)

  none_still : LetsNothingGo live.floor → LetsNothingGo new.floor
  none_still none = subst LetsNothingGo (sym is.floor_is) none

  -- where something was
  abbrev IsBesideAt : LiveMachine → Machine → Type 0
  IsBesideAt machine after =
      IsBeside machine.floor after × IsSameMachine machine.kept (cut_machine machine.floor after)

  told_spared : SparesFloor live.floor step → IsBeside live.floor whole → IsSameMachine live.kept
      (cut_machine live.floor whole) → IsTold whole step answer new IsBesideAt
  told_spared spared beside same =
      let one = kept_alike live.floor whole live.kept new.kept step is.told beside spared same
      is.takes in
      record {
        after = one.after;
        takes = subst (λ (a : Answer). TakesWithRoom whole step a one.after)
            (sym is.brought_back) one.takes;
        left = (
          subst (λ (f : Floor). IsBeside f one.after) (sym is.floor_is) one.beside,
          subst (λ (f : Floor). IsSameMachine new.kept (cut_machine f one.after))
              (sym is.floor_is) one.same,
        );
      }

  told_initial : (at : ℕ) → step ≡ Damage at 0 → IsBeside live.floor whole → IsSameMachine live.kept
      (cut_machine live.floor whole) → IsTold whole step answer new IsBesideAt
  told_initial at step_is beside same =
      let long : length live.kept.history ≡ length whole.history = ap
      (λ (h : List Process). length h) same.history ∙ length_history live.floor whole.history in
      let nothing : 0 - lost_checks live.floor at ≡ 0 = omega arith in
      let asked : cut_step live.floor step
      ≡ Damage at 0 = ap (cut_step live.floor) step_is ∙ ap (λ (k : ℕ). Damage at k) nothing in
      let kept_takes : Takes live.kept (Damage at 0) is.told new.kept = subst
      (λ (s : Step). Takes live.kept s is.told new.kept) asked is.takes in
      let both = initial_told live.kept whole new.kept at is.told long kept_takes in
      record {
        after = whole;
        takes = subst (λ (a : Answer). TakesWithRoom whole step a whole)
            (sym (is.brought_back ∙ refused_same at is.told kept_takes))
            (subst (λ (s : Step). TakesWithRoom whole s is.told whole) (sym step_is) both.0);
        left = (
          subst (λ (f : Floor). IsBeside f whole) (sym is.floor_is) beside,
          subst (λ (m : Machine). IsSameMachine m (cut_machine new.floor whole)) (sym both.1)
              (subst (λ (f : Floor). IsSameMachine live.kept (cut_machine f whole))
              (sym is.floor_is) same),
        );
      }
    where
      refused_same : (at : ℕ) (told : Answer) → Takes live.kept (Damage at 0) told new.kept
          → whole_answer live.floor told ≡ told
      refused_same at (Done reply) takes = absurd (initial_some (is_stranger live.kept at) takes.0)
      refused_same at (Refused e) takes = refl

  told_beside : floor_refusal live.floor step ≡ None → IsBeside live.floor whole → IsSameMachine
      live.kept (cut_machine live.floor whole) → IsTold whole step answer new IsBesideAt
  told_beside none beside same = elim (spares live.floor step none) [
    | inl spared ↦ told_spared spared beside same
    | inr initial ↦ told_initial initial.0 initial.1 beside same
  ]

-- the law of a step
pub told_by_whole : (live new : LiveMachine) (whole : Machine) (step : Step) (answer : Answer)
    → IsLeftOf live whole → floor_refusal live.floor step ≡ None
    → IsAnsweredByKept live step answer new → IsToldByWhole whole step answer new
told_by_whole live new whole step answer (inl (none, same)) unrefused is = record {
  after = new.kept;
  takes = with_room whole step answer new.kept (told_first live new whole step answer is none same);
  left = inl (none_still live new whole step answer is none, refl);
}
told_by_whole live new whole step answer (inr (beside, same)) unrefused is =
    let one = told_beside live new whole step answer is unrefused beside same in
    record { after = one.after; takes = one.takes; left = inr one.left }

-- and what it keeps true
step_alongside : (live new : LiveMachine) (whole : Machine) (step : Step) (answer : Answer)
    → IsAlongside live whole → floor_refusal live.floor step ≡ None
    → IsAnsweredByKept live step answer new → IsTold whole step answer new IsAlongside
step_alongside live new whole step answer along unrefused is = by_left along.left
  where
    made : (after : Machine) → TakesWithRoom whole step answer after
        → (LetsNothingGo new.floor × ((new.kept ≡ after) × Stands after))
        ⊎ (IsBeside new.floor after × IsSameMachine new.kept (cut_machine new.floor after))
        → IsTold whole step answer new IsAlongside
    made after takes left = record {
      after = after;
      takes = takes;
      left = record {
        left = left;
        shaped = stays_shaped whole along.shaped step answer after takes;
        sends = ap (λ (f : Floor). length f.sends) is.floor_is ∙ along.sends ∙ sym
            (stays_long whole step answer after takes);
      };
    }

    by_left : (LetsNothingGo live.floor × ((live.kept ≡ whole) × Stands whole))
        ⊎ (IsBeside live.floor whole × IsSameMachine live.kept (cut_machine live.floor whole))
        → IsTold whole step answer new IsAlongside
    by_left (inl (none, (same, stands))) =
        let takes : Takes whole step answer new.kept = told_first live new whole step answer is none
        same in
        made new.kept (with_room whole step answer new.kept takes)
        (inl (
          none_still live new whole step answer is none,
          (refl, (goes-taken whole new.kept step answer stands takes).stands),
        ))
    by_left (inr (beside, same)) =
        let one = told_beside live new whole step answer is unrefused beside same in
        made one.after one.takes (inr one.left)

-- what is left of a listed round has no initial state either
left_shaped : (floor : Floor) (n : ℕ) → length floor.checks ≡ n → (round : ListedRound)
    → is_listed_on floor round ≡ true → IsShapedRound n round
    → IsShapedRound n (cut_listed floor round)
left_shaped floor n size round on is = record {
  count = length-map-range_with_len (λ p. check_in round p - lost_checks floor p) 0
      (length round.checks) ∙ is.count;
  checked = λ p within.
      let low : floor_check floor p ≤ check_in round p = leb-true (floor_check floor p)
      (check_in round p) (in_range (λ q. nat_le (floor_check floor q) (check_in round q)) 0
      (length floor.checks) p on (omega arith) (omega (arith, within, size))) in
      let at : check_in (cut_listed floor round) p
      ≡ check_in round p - lost_checks floor p = get_or-map-range_with_len
      (λ q. check_in round q - lost_checks floor q) 0 (length round.checks) p p 0
      (omega (arith, within, is.count)) (omega arith) in
      omega (arith, low, at, is.checked p within);
}

rounds_shaped : (floor : Floor) (n : ℕ) → length floor.checks ≡ n → (rounds : List ListedRound)
    → All (IsShapedRound n) rounds
    → All (IsShapedRound n) (map (cut_listed floor) (filter (is_listed_on floor) rounds))
rounds_shaped floor n size [] all = All-nil (IsShapedRound n)
rounds_shaped floor n size (round ∷ rounds) all =
    let rest = rounds_shaped floor n size rounds (All-tail (IsShapedRound n) round rounds all) in
    let others : List ListedRound = filter (is_listed_on floor) rounds in
    elim (is_listed_on floor round) as (λ b. b ≡ is_listed_on floor round
    → All (IsShapedRound n) (map (cut_listed floor) (cond b (round ∷ others) others))) [
      | true ↦ λ e. All-cons (IsShapedRound n) (cut_listed floor round)
          (map (cut_listed floor) others) (left_shaped floor n size round (sym e)
          (All-head (IsShapedRound n) round rounds all)) rest
      | false ↦ λ e. rest
    ] refl

-- what stands before a later floor is let go
module _ (live new : LiveMachine) (whole : Machine) (later : Floor) (lets : LetsGo live later new)
    (shaped : IsShaped whole) (sends : length live.floor.sends ≡ length whole.history)
    (count : length later.sends ≡ length live.kept.history) where
  -- the first floor
  forgets_first : LetsNothingGo live.floor → live.kept ≡ whole → MayForget later whole
      → IsAlongside new whole
  forgets_first none same may =
      let floor_is : new.floor ≡ later = lets.floor_is ∙ floor_none live.floor none later in
      record {
        left = inr (
          subst (λ (f : Floor). IsBeside f whole) (sym floor_is) (begins_beside later whole may),
          subst (λ (f : Floor). IsSameMachine new.kept (cut_machine f whole)) (sym floor_is) (subst
              (λ (m : Machine). IsSameMachine new.kept (cut_machine later m)) same lets.kept),
        );
        shaped = shaped;
        sends = ap (λ (f : Floor). length f.sends) floor_is ∙ count ∙ ap
            (λ (m : Machine). length m.history) same;
      }

  -- a further one
  module _ (beside : IsBeside live.floor whole)
      (same : IsSameMachine live.kept (cut_machine live.floor whole)) (idle : is_open live.kept
      ≡ false) (last : later.round ≡ live.kept.last_round) (there : IsFloor live.kept.history later)
      (stays : FloorSurvives live.kept.history live.kept.marks later) (some : (p : ℕ)
      → p < length whole.history → 1 ≤ floor_check live.floor p → 1 ≤ floor_check later p) where
    size : length live.kept.history ≡ length whole.history
    size =
        ap (λ (h : List Process). length h) same.history ∙ length_history live.floor whole.history

    further : IsFurther live.floor later whole
    further = record {
      first = sym (length-map live.floor.checks (λ c. AtCheck c)) ∙ beside.is.line.length_is;
      checks = sym (length-map later.checks (λ c. AtCheck c)) ∙ there.line.length_is ∙ size;
      sends = sends ∙ sym size ∙ sym count;
      some = some;
      rising = omega (arith, last, same.last_round, beside.round);
      marked = beside.marked;
      barred = shaped.barred;
      listed = All-weaker (IsShapedRound (length whole.history)) (λ (round : ListedRound). length
          round.checks ≡ length whole.history) (λ round s. s.count) whole.rounds shaped.rounds;
    }

    forgets_further : IsAlongside new whole
    forgets_further =
        let both : Floor = whole_floor live.floor later in
        record {
          left = inr (
            subst (λ (f : Floor). IsBeside f whole) (sym lets.floor_is) (kept_beside live.floor
                later whole live.kept beside same idle last there stays some),
            subst (λ (f : Floor). IsSameMachine new.kept (cut_machine f whole)) (sym lets.floor_is)
                (subst (λ (m : Machine). IsSameMachine new.kept m)
                (machine_both live.floor later whole further)
                (same_through new.kept (cut_machine later live.kept)
                (cut_machine later (cut_machine live.floor whole)) lets.kept
                (machines_cut later live.kept (cut_machine live.floor whole) same))),
          );
          shaped = shaped;
          sends = ap (λ (f : Floor). length f.sends) lets.floor_is ∙ length-map-range_with_len
              (λ p. get_or live.floor.sends p 0 + get_or later.sends p 0) 0
              (length later.sends) ∙ count ∙ size;
        }

-- how many sends a floor that is found has
settled_count : (machine : Machine) (line : List Choice) (later : Floor) → later ≡ floor_of_line
    machine.history line machine.last_round → length later.sends ≡ length machine.history
settled_count machine line later value = ap (λ (f : Floor). length f.sends) value ∙
    length-map-range_with_len (settled_sends machine.history line) 0 (length machine.history)

abbrev IsMarked : Machine → Type 0
IsMarked machine = length machine.marks.damaged ≡ length machine.history

-- before a listed round
round_alongside : (live new : LiveMachine) (whole : Machine) (number : ℕ) → IsAlongside live whole
    → ForgetsRound live number new → IsAlongside new whole
round_alongside live new whole number along forgets = by_left along.left
  where
    at : IsFloorOfRound live.kept number forgets.later
    at = forgets.at

    count : length forgets.later.sends ≡ length live.kept.history
    count = settled_count live.kept (check_line at.round.checks) forgets.later at.at.value

    by_left : (LetsNothingGo live.floor × ((live.kept ≡ whole) × Stands whole))
        ⊎ (IsBeside live.floor whole × IsSameMachine live.kept (cut_machine live.floor whole))
        → IsAlongside new whole
    by_left (inl (none, (same, stands))) =
        forgets_first live new whole forgets.later forgets.lets_go along.shaped along.sends count
        none same
        (subst (MayForget forgets.later) same
        (may_round live.kept number forgets.later (subst IsSound (sym same) (sound whole
        stands)) (subst IsMarked (sym same) along.shaped.marked) forgets.unrefused at))
    by_left (inr (beside, same)) =
        let idle = idle_cases live.kept.mode (is_open live.kept)
        (round_refusal live.kept (listed_of live.kept.rounds number)) forgets.unrefused in
        let n : ℕ = length whole.history in
        let first : length live.floor.checks
        ≡ n = sym (length-map live.floor.checks (λ c. AtCheck c)) ∙ beside.is.line.length_is in
        let kept_shaped : All (IsShapedRound n) live.kept.rounds = subst
        (λ (rounds : List ListedRound). All (IsShapedRound n) rounds) (sym same.rounds)
        (rounds_shaped live.floor n first whole.rounds along.shaped.rounds) in
        let one : IsShapedRound n at.round = listed_one
        (IsShapedRound n) live.kept.rounds number at.round kept_shaped at.listed in
        let checks_are : forgets.later.checks ≡ at.round.checks = ap
        (λ (f : Floor). f.checks) at.at.value ∙ indices_back at.round.checks in
        forgets_further live new whole forgets.later forgets.lets_go along.shaped along.sends count
        beside same idle.1 (ap (λ (f : Floor). f.round) at.at.value) at.at.is at.at.stays
        (λ p within left. subst (λ (checks : List ℕ). 1 ≤ get_or checks p 0) (sym checks_are)
        (one.checked p within))

-- before the line where each process fails
line_alongside : (live new : LiveMachine) (whole : Machine) → IsAlongside live whole
    → ForgetsLive live new → IsAlongside new whole
line_alongside live new whole along forgets = by_left along.left
  where
    at : IsFloorWhereAllFail live.kept forgets.later
    at = forgets.at

    count : length forgets.later.sends ≡ length live.kept.history
    count = settled_count live.kept at.line forgets.later at.value

    by_left : (LetsNothingGo live.floor × ((live.kept ≡ whole) × Stands whole))
        ⊎ (IsBeside live.floor whole × IsSameMachine live.kept (cut_machine live.floor whole))
        → IsAlongside new whole
    by_left (inl (none, (same, stands))) =
        forgets_first live new whole forgets.later forgets.lets_go along.shaped along.sends count
        none same
        (subst (MayForget forgets.later) same
        (may_line live.kept forgets.later (subst IsSound (sym same) (sound whole stands))
        (subst IsMarked (sym same) along.shaped.marked) forgets.unrefused at))
    by_left (inr (beside, same)) =
        let idle = idle_cases live.kept.mode (is_open live.kept) None forgets.unrefused in
        let kept : Machine = live.kept in
        let line_is : floor_line forgets.later
        ≡ at.line = ap (λ (f : Floor). floor_line f) at.value ∙ line_of_checks at.line
        (all_checks kept.history kept.marks at.failed at.line at.all at.latest) in
        let cut : IsLatest (cut_history live.floor whole.history)
        (cut_marks live.floor whole.marks) at.failed (floor_line forgets.later) =
        subst (IsLatest (cut_history live.floor whole.history)
        (cut_marks live.floor whole.marks) at.failed) (sym line_is)
        (latest_line_same (cut_history live.floor whole.history) kept.marks
        (cut_marks live.floor whole.marks) at.failed at.line same.marks
        (subst (λ (h : List Process). IsLatest h kept.marks at.failed at.line) same.history
        at.latest)) in
        forgets_further live new whole forgets.later forgets.lets_go along.shaped along.sends count
        beside same idle.1 (ap (λ (f : Floor). f.round) at.value) at.is at.stays
        (later_stays live.floor forgets.later whole.history whole.marks at.failed
        (ordered_fit whole.history beside.fit) beside.is beside.stays cut)

-- a life, from one machine to another
record IsLivedOut (whole : Machine) (lived : List Lived) (new : LiveMachine) : Type 0 where
  after : Machine
  runs : RunsWithRoom whole (filter_map step_asked lived) (filter_map answer_told lived) after
  along : IsAlongside new after

lived_out : (live new : LiveMachine) (whole : Machine) (lived : List Lived) → IsAlongside live whole
    → IsLife live lived new → IsLivedOut whole lived new
lived_out live new whole [] along life = record {
  after = whole;
  runs = refl;
  along = subst
      (λ (m : LiveMachine). IsAlongside m whole) (sym life) along;
}
lived_out live new whole (Asked step answer ∷ rest) along (mid, (none, is), life) =
    let one = step_alongside live mid whole step answer along none is in
    let more = lived_out mid new one.after rest one.left life in
    record { after = more.after; runs = (one.after, one.takes, more.runs); along = more.along }
lived_out live new whole (Spared step e ∷ rest) along (mid, (refused, same), life) =
    let more = lived_out mid new whole rest
    (subst (λ (m : LiveMachine). IsAlongside m whole) (sym same) along) life in
    record { after = more.after; runs = more.runs; along = more.along }
lived_out live new whole (ForgotRound number ∷ rest) along (mid, forgets, life) =
    let more = lived_out mid new whole rest
    (round_alongside live mid whole number along forgets) life in
    record { after = more.after; runs = more.runs; along = more.along }
lived_out live new whole (ForgotLive ∷ rest) along (mid, forgets, life) =
    let more = lived_out mid new whole rest (line_alongside live mid whole along forgets) life in
    record { after = more.after; runs = more.runs; along = more.along }

-- at the beginning
zero_at : (n p : ℕ) → get_or {A = ℕ} (replicate {A = ℕ} n 0) p 0 ≡ 0
zero_at zero p = refl
zero_at (suc n) zero = refl
zero_at (suc n) (suc p) = zero_at n p

pub first_none : (n : ℕ) → LetsNothingGo (first_floor n)
first_none n p = (zero_at n p, zero_at n p)

starts_alongside : (n : ℕ) (mode : Mode) → IsAlongside (start_live n mode) (start n mode)
starts_alongside n mode = record {
  left = inl (first_none n, (refl, Stands-start n mode));
  shaped = starts_shaped n mode;
  sends = length-replicate n 0 ∙ sym (length-replicate n fresh);
}

-- the law of a life
pub life_of_whole : (n : ℕ) (mode : Mode) (lived : List Lived) (live : LiveMachine)
    → IsLife (start_live n mode) lived live → IsLifeOfWhole n mode lived live
life_of_whole n mode lived live life =
    let out = lived_out (start_live n mode) live (start n mode) lived
    (starts_alongside n mode) life in
    record { whole = out.after; runs = out.runs; left = left_of live out.after out.along.left }

-- a step is answered by what is kept, or refused
lived_unless : (old new : LiveMachine) (step : Step) (answer : Answer) (refusal : Option StepError)
    → floor_refusal old.floor step ≡ refusal → TakesUnless refusal old step answer new
    → IsLivedStep old step answer new
lived_unless old new step answer (Some e) is takes = inr (e, takes.0, (is, takes.1))
lived_unless old new step answer None is takes = inl (is, takes)

pub lived_step : (old new : LiveMachine) (step : Step) (answer : Answer)
    → TakesLive old step answer new → IsLivedStep old step answer new
lived_step old new step answer takes =
    lived_unless old new step answer (floor_refusal old.floor step) refl takes
