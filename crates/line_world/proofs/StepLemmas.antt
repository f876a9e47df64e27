-- What is known of a step that no cause refuses, and of one that is refused.
use Rattle.std.proofs.Common.{◌≡◌, ◌≢◌, ℕ, ◌+◌, ◌<◌, ◌≤◌, Bool, true, false, cond, List, length}
use Rattle.std.proofs.Common.{Option, Some, None, refl, ap, ◌∙◌, subst, arith}
use Rattle.std.specs.Prelude.{◌||◌, ◌&&◌, ◌==◌, not, nat_le, slice_get}
use Rattle.std.proofs.lemmas.Bool.{or_parts, leb-false, ltb-false, eqb-true, eqb-false, not-false}
use Rattle.line_tape.specs.declared.items.Item.{Item}
use Rattle.line_tape.specs.declared.limits.TheConstants.{MOST_EVENTS, MOST_STATE, LAST_ROUND}
use Rattle.line_tape.specs.History.{tape_at}
use Rattle.line_tape.specs.declared.modes.Mode.{Mode}
use Rattle.line_tape.specs.declared.modes.Mode.TheVariants.{Fifo, Unordered}
use Rattle.line_tape.specs.declared.steps.Step.{Step}
use Rattle.line_tape.specs.declared.steps.Step.TheVariants.{Send, Deliver, Check, Begin, Turn}
use Rattle.line_tape.specs.declared.steps.Step.TheVariants.{Recover}
use Rattle.line_world.specs.declared.replies.Answer.TheVariants.{Refused}
use Rattle.line_world.specs.declared.replies.StepError.{StepError}
use Rattle.line_world.specs.declared.replies.StepError.TheVariants.{NoSuchProcess, TapeFull}
use Rattle.line_world.specs.declared.replies.StepError.TheVariants.{StateTooLong, ToSelf, LinkEmpty}
use Rattle.line_world.specs.declared.replies.StepError.TheVariants.{BadPick, RoundOpen}
use Rattle.line_world.specs.declared.replies.StepError.TheVariants.{NothingToTurn, WrongMode}
use Rattle.line_world.specs.declared.replies.StepError.TheVariants.{NoMoreRounds}
use Rattle.line_world.specs.Machine.{Machine, items_on, is_open}
use Rattle.line_world.specs.Refusals.{first_cause, link_causes, has_stranger, is_stranger}
use Rattle.line_world.specs.Refusals.{is_bad_pick, is_full, is_full_for, is_long, may_turn}
use Rattle.line_world.specs.Refusals.{refusal_of, IsRefused}
use Rattle.line_tape.specs.Modes.{is_fifo}
use Rattle.line_world.specs.Runs.{Takes}

-- where no cause holds, the first one doesn't, nor does any other
passed : (b : Bool) (e : StepError) (rest : Option StepError) → cond b (Some e) rest ≡ None
    → (b ≡ false) × (rest ≡ None)
passed true e rest none = absurd (cc)
passed false e rest none = (refl, none)

-- the first cause refuses
pub Takes-refused : (old : Machine) (step : Step) (e : StepError) → Some e ≡ refusal_of old step
    → Takes old step (Refused e) old
Takes-refused old step e is = (subst (IsRefused old step e) is refl, refl)

-- two processes that there are
pub record AreProcesses (machine : Machine) (from to : ℕ) : Type 0 where
  pub from_within : from < length machine.history
  pub to_within : to < length machine.history

are_processes : (machine : Machine) (from to : ℕ)
    → (is_stranger machine from || is_stranger machine to) ≡ false → AreProcesses machine from to
are_processes machine from to none =
    let parts = or_parts (is_stranger machine from) (is_stranger machine to) none in
    record {
      from_within = leb-false (length machine.history) from parts.0;
      to_within = leb-false
          (length machine.history) to parts.1;
    }

-- room for one event
pub room_for : (machine : Machine) (p : ℕ) → is_full machine p 1 ≡ false
    → length (tape_at machine.history p) < MOST_EVENTS
room_for machine p free = let few : length (tape_at machine.history p) + 1 ≤ MOST_EVENTS = ltb-false
    MOST_EVENTS (length (tape_at machine.history p) + 1) free in omega (arith, few)

-- what a send may rely on
pub record MaySend (machine : Machine) (from to : ℕ) : Type 0 where
  pub named : AreProcesses machine from to
  pub few : length (tape_at machine.history from) < MOST_EVENTS

pub may_send : (machine : Machine) (from to : ℕ) (body : List ℕ)
    → refusal_of machine (Send from to body) ≡ None → MaySend machine from to
may_send machine from to body none =
    let named = passed (is_stranger machine from || is_stranger machine to) NoSuchProcess _ none in
    let apart = passed (from == to) ToSelf _ named.1 in
    let room = passed (is_full machine from 1) TapeFull _ apart.1 in
    record { named = are_processes machine from to named.0; few = room_for machine from room.0 }

-- what a delivery may rely on
pub record MayDeliver (machine : Machine) (from to pick : ℕ) (state : List ℕ) : Type 0 where
  pub named : AreProcesses machine from to
  pub apart : from ≢ to
  pub short : length state ≤ MOST_STATE
  pub first : machine.mode ≡ Fifo → pick ≡ 0
  pub within : pick < length (items_on machine from to)

above_zero : (n : ℕ) → (n == 0) ≡ false → 0 < n
above_zero n e = let apart = eqb-false n 0 e in omega (arith, apart)

-- a pick that is not bad
good_pick : (mode : Mode) (items : List Item) (pick : ℕ) → is_bad_pick mode items pick ≡ false
    → 0 < length items → (mode ≡ Fifo → pick ≡ 0) × (pick < length items)
good_pick Fifo items pick good some = let first : pick
    ≡ 0 = eqb-true pick 0 (not-false (pick == 0) good) in (λ e. first, omega (arith, first, some))
good_pick Unordered items pick good some = (λ e. absurd (cc), leb-false (length items) pick good)

pub may_deliver : (machine : Machine) (from to pick : ℕ) (state : List ℕ) → first_cause
    (link_causes machine from to pick state) ≡ None → MayDeliver machine from to pick state
may_deliver machine from to pick state none =
    let named = passed (is_stranger machine from || is_stranger machine to) NoSuchProcess _ none in
    let apart = passed (from == to) ToSelf _ named.1 in
    let short = passed (is_long state) StateTooLong _ apart.1 in
    let some = passed (length (items_on machine from to) == 0) LinkEmpty _ short.1 in
    let good = passed (is_bad_pick machine.mode (items_on machine from to) pick) BadPick _ some.1 in
    let pick_is = good_pick machine.mode (items_on machine from to) pick good.0
    (above_zero (length (items_on machine from to)) some.0) in
    record {
      named = are_processes machine from to named.0;
      apart = eqb-false from to apart.0;
      short
          = ltb-false MOST_STATE (length state) short.0;
      first = pick_is.0;
      within = pick_is.1;
    }

-- a delivery that the link doesn't refuse is refused where the tape is full for its item
pub link_passed : (machine : Machine) (from to pick : ℕ) (state : List ℕ)
    → first_cause (link_causes machine from to pick state) ≡ None
    → refusal_of machine (Deliver from to pick state) ≡ cond (is_full_for machine from to state
    (slice_get (items_on machine from to) pick)) (Some TapeFull) None
link_passed machine from to pick state none =
    let named = passed (is_stranger machine from || is_stranger machine to) NoSuchProcess _ none in
    let apart = passed (from == to) ToSelf _ named.1 in
    let short = passed (is_long state) StateTooLong _ apart.1 in
    let some = passed (length (items_on machine from to) == 0) LinkEmpty _ short.1 in
    let good = passed (is_bad_pick machine.mode (items_on machine from to) pick) BadPick _ some.1 in
    let full : Option StepError = cond (is_full_for machine from to state
    (slice_get (items_on machine from to) pick)) (Some TapeFull) None in
    ap (λ b. cond b (Some NoSuchProcess)
    (cond (from == to) (Some ToSelf)
    (cond (is_long state) (Some StateTooLong)
    (cond (length (items_on machine from to) == 0) (Some LinkEmpty) (cond
    (is_bad_pick machine.mode (items_on machine from to) pick) (Some BadPick) full))))) named.0
    ∙ ap (λ b. cond b (Some ToSelf)
    (cond (is_long state) (Some StateTooLong)
    (cond (length (items_on machine from to) == 0) (Some LinkEmpty) (cond
    (is_bad_pick machine.mode (items_on machine from to) pick) (Some BadPick) full)))) apart.0
    ∙ ap (λ b. cond b (Some StateTooLong)
    (cond (length (items_on machine from to) == 0) (Some LinkEmpty) (cond
    (is_bad_pick machine.mode (items_on machine from to) pick) (Some BadPick) full))) short.0
    ∙ ap (λ b. cond b (Some LinkEmpty) (cond
    (is_bad_pick machine.mode (items_on machine from to) pick) (Some BadPick) full)) some.0
    ∙ ap (λ b. cond b (Some BadPick) full) good.0

-- a delivery that nothing refuses is one to a process
pub may_deliver_at : (machine : Machine) (from to pick : ℕ) (state : List ℕ)
    → refusal_of machine (Deliver from to pick state) ≡ None → to < length machine.history
may_deliver_at machine from to pick state none = (are_processes machine from to
    (passed (is_stranger machine from || is_stranger machine to) NoSuchProcess _ none).0).to_within

-- what a check may rely on
pub record MayCheck (machine : Machine) (at : ℕ) (state : List ℕ) : Type 0 where
  pub within : at < length machine.history
  pub short : length state ≤ MOST_STATE
  pub few : length (tape_at machine.history at) < MOST_EVENTS

pub may_check : (machine : Machine) (at : ℕ) (state : List ℕ)
    → refusal_of machine (Check at state) ≡ None → MayCheck machine at state
may_check machine at state none =
    let named = passed (is_stranger machine at) NoSuchProcess _ none in
    let short = passed (is_long state) StateTooLong _ named.1 in
    let room = passed (is_full machine at 1) TapeFull _ short.1 in
    record {
      within = leb-false (length machine.history) at named.0;
      short = ltb-false MOST_STATE (length state) short.0;
      few = room_for machine at room.0;
    }

-- what a round may rely on that is begun
pub record MayBegin (machine : Machine) (at : ℕ) (state : List ℕ) : Type 0 where
  pub within : at < length machine.history
  pub short : length state ≤ MOST_STATE
  pub closed : is_open machine ≡ false
  pub numbers : machine.last_round < LAST_ROUND
  pub few : length (tape_at machine.history at) < MOST_EVENTS

pub may_begin : (machine : Machine) (at : ℕ) (state : List ℕ)
    → refusal_of machine (Begin at state) ≡ None → MayBegin machine at state
may_begin machine at state none =
    let named = passed (is_stranger machine at) NoSuchProcess _ none in
    let short = passed (is_long state) StateTooLong _ named.1 in
    let closed = passed (is_open machine) RoundOpen _ short.1 in
    let more = passed (nat_le LAST_ROUND machine.last_round) NoMoreRounds _ closed.1 in
    let room = passed (is_full machine at 1) TapeFull _ more.1 in
    record {
      within = leb-false (length machine.history) at named.0;
      short = ltb-false MOST_STATE (length state) short.0;
      closed = closed.0;
      numbers = leb-false LAST_ROUND machine.last_round more.0;
      few = room_for machine at room.0;
    }

-- what a turn may rely on
pub record MayTurn (machine : Machine) (at : ℕ) (state : List ℕ) : Type 0 where
  pub within : at < length machine.history
  pub unordered : machine.mode ≡ Unordered
  pub short : length state ≤ MOST_STATE
  pub may : may_turn machine at ≡ true
  pub few : length (tape_at machine.history at) < MOST_EVENTS

out_of_order : (mode : Mode) → is_fifo mode ≡ false → mode ≡ Unordered
out_of_order Fifo e = absurd (cc)
out_of_order Unordered e = refl

turns_so : (b : Bool) → not b ≡ false → b ≡ true
turns_so true e = refl
turns_so false e = absurd (cc)

-- a process that may turn has no check of the round yet
pub turns_anew : (a b : Bool) → (a && not b) ≡ true → b ≡ false
turns_anew true true e = absurd (cc)
turns_anew true false e = refl
turns_anew false b e = absurd (cc)

pub may_turn_at : (machine : Machine) (at : ℕ) (state : List ℕ)
    → refusal_of machine (Turn at state) ≡ None → MayTurn machine at state
may_turn_at machine at state none =
    let named = passed (is_stranger machine at) NoSuchProcess _ none in
    let unordered = passed (is_fifo machine.mode) WrongMode _ named.1 in
    let short = passed (is_long state) StateTooLong _ unordered.1 in
    let may = passed (not (may_turn machine at)) NothingToTurn _ short.1 in
    let room = passed (is_full machine at 1) TapeFull _ may.1 in
    record {
      within = leb-false (length machine.history) at named.0;
      unordered = out_of_order machine.mode unordered.0;
      short = ltb-false MOST_STATE (length state) short.0;
      may = turns_so (may_turn machine at) may.0;
      few = room_for machine at room.0;
    }

-- a recovery that names only processes
pub may_recover : (machine : Machine) (failed : List Bool) → has_stranger machine failed ≡ false
    → refusal_of machine (Recover failed) ≡ None
may_recover machine failed none = ap (λ b. cond b (Some NoSuchProcess) None) none
