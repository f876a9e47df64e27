-- What each step keeps of a machine, even if a tape is full: its mode, how many processes marks,
-- bars
-- and listed rounds are of, and what is true of each listed round when it is new, as that none of
-- its
-- checks is an initial state.
use Rattle.std.proofs.Common.{◌≡◌, ◌≢◌, ℕ, suc, ◌+◌, ◌<◌, ◌≤◌, Bool, true, false, not, ◌&&◌, cond}
use Rattle.std.proofs.Common.{List, [], ◌∷◌, ◌++◌, length, replicate, Some, None, Result, Ok, Err}
use Rattle.std.proofs.Common.{IfOk, IfErr, IsErrOf, refl, sym, ap, ◌∙◌, subst, arith}
use Rattle.std.specs.List.{All, range_with_len}
use Rattle.std.proofs.lemmas.List.{length-replicate, length-set}
use Rattle.std.proofs.lemmas.List.Elements.{All-append, All-cons, All-filter, All-map, All-nil}
use Rattle.std.proofs.lemmas.List.FromFn.{length-map-range_with_len, get_or-map-range_with_len}
use Rattle.line_names.specs.declared.choices.Choice.{Choice}
use Rattle.line_tape.specs.declared.events.Event.{Event}
use Rattle.line_tape.specs.declared.events.Event.TheVariants.{Send as SendEvent}
use Rattle.line_tape.specs.declared.events.Event.TheVariants.{Check as CheckEvent}
use Rattle.line_tape.specs.History.{Process, fresh, incarnation_at, tape_at, with_event}
use Rattle.line_tape.specs.Restart.{restarted_damage}
use Rattle.line_tape.specs.Rounds.{check_index}
use Rattle.line_tape.specs.Views.{damaged_at, with_bar, with_mark}
use Rattle.line_tape.proofs.StayLemmas.{length_restarted}
use Rattle.line_tape.specs.declared.modes.Mode.{Mode}
use Rattle.line_tape.specs.declared.steps.Step.{Step}
use Rattle.line_tape.specs.declared.steps.Step.TheVariants.{Send, Deliver, Check, Begin, Turn}
use Rattle.line_tape.specs.declared.steps.Step.TheVariants.{Damage, Bar, Recover}
use Rattle.line_moves.specs.Fates.{events_taken}
use Rattle.line_moves.specs.Listed.{ListedRound, check_in, is_completed, listed_round, newly_listed}
use Rattle.line_moves.specs.Listed.{stays}
use Rattle.line_moves.specs.Moves.{with_events}
use Rattle.line_moves.proofs.LinkLemmas.{length-with_event}
use Rattle.line_world.specs.declared.replies.Answer.{Answer}
use Rattle.line_world.specs.declared.replies.Answer.TheVariants.{Done, Refused}
use Rattle.line_world.specs.declared.replies.Reply.{Reply}
use Rattle.line_world.specs.declared.replies.Reply.TheVariants.{Sent, Took, Marked, Stale, Repeated}
use Rattle.line_world.specs.declared.replies.Reply.TheVariants.{Checked, Begun, Turned, Damaged}
use Rattle.line_world.specs.declared.replies.Reply.TheVariants.{Barred, Recovered}
use Rattle.line_world.specs.declared.replies.StepError.{StepError}
use Rattle.line_world.specs.declared.replies.StepError.TheVariants.{OutOfMemory, NoSuchProcess}
use Rattle.line_world.specs.declared.replies.StepError.TheVariants.{TapeFull, NoSuchCheck}
use Rattle.line_world.specs.declared.replies.StepError.TheVariants.{StateTooLong, InitialDamage}
use Rattle.line_world.specs.declared.replies.StepError.TheVariants.{AlreadyDamaged, ToSelf}
use Rattle.line_world.specs.declared.replies.StepError.TheVariants.{LinkEmpty, BadPick, RoundOpen}
use Rattle.line_world.specs.declared.replies.StepError.TheVariants.{NothingToTurn, WrongMode}
use Rattle.line_world.specs.declared.replies.StepError.TheVariants.{NoMoreRounds}
use Rattle.line_world.specs.declared.replies.StepError.TheVariants.{NoMoreIncarnations, BarNotLower}
use Rattle.line_world.specs.Machine.{Machine, start, with_step}
use Rattle.line_world.specs.Runs.{Takes}
use Rattle.line_world.specs.Steps.{restarted_machine, Does, RecoversWith}
use Rattle.line_live.specs.CutMachines.{TakesWithRoom}
use Rattle.line_live.specs.Resumed.{AreChecks}

-- a listed round has a check of each of n processes, and none is an initial state
pub record IsShapedRound (n : ℕ) (round : ListedRound) : Type 0 where
  pub count : length round.checks ≡ n
  pub checked : (p : ℕ) → p < n → 1 ≤ check_in round p

pub record IsShaped (machine : Machine) : Type 0 where
  pub marked : length machine.marks.damaged ≡ length machine.history
  pub barred : length machine.marks.bars ≡ length machine.history
  pub rounds : All (IsShapedRound (length machine.history)) machine.rounds

-- a listed round that is new
new_shaped : (mode : Mode) (history : List Process) (r : ℕ)
    → IsShapedRound (length history) (listed_round mode history r)
new_shaped mode history r = record {
  count = length-map-range_with_len (λ q. check_index r (tape_at history q)) 0 (length history);
  checked = λ p within.
      let at : check_in (listed_round mode history r) p
      ≡ check_index r (tape_at history p) = get_or-map-range_with_len
      (λ q. check_index r (tape_at history q)) 0 (length history) p p 0 within (omega arith) in
      omega (arith, at);
}

newly_shaped : (mode : Mode) (old new : List Process) (last : ℕ)
    → All (IsShapedRound (length new)) (newly_listed mode old new last)
newly_shaped mode old new last = elim
    (is_completed mode new last && not (is_completed mode old last)) as
    (λ b. All (IsShapedRound (length new)) (cond b (listed_round mode new last ∷ []) [])) [
      | true ↦ All-cons (IsShapedRound (length new)) (listed_round mode new last) []
          (new_shaped mode new last) (All-nil (IsShapedRound (length new)))
      | false ↦ All-nil (IsShapedRound (length new))
    ]

length_events : (history : List Process) (p : ℕ) (events : List Event)
    → length (with_events history p events) ≡ length history
length_events history p [] = refl
length_events history p (event ∷ events) =
    length_events (with_event history p event) p events ∙ length-with_event history p event

length_damage : (marks : List (List ℕ)) (line : List Choice) → length line ≡ length marks
    → length (restarted_damage marks line) ≡ length marks
length_damage [] line size = refl
length_damage (checks ∷ rest) [] size = absurd (omega arith)
length_damage (checks ∷ rest) (choice ∷ line) size = ap suc (length_damage rest line (omega arith))

-- a machine with as many processes, marks, bars and shaped rounds
shaped_at : (machine : Machine) (n : ℕ) → length machine.history ≡ n → length machine.marks.damaged
    ≡ n → length machine.marks.bars ≡ n → All (IsShapedRound n) machine.rounds → IsShaped machine
shaped_at machine n size marked barred rounds = record {
  marked = marked ∙ sym size;
  barred = barred ∙ sym size;
  rounds = subst (λ (m : ℕ). All (IsShapedRound m) machine.rounds) (sym size) rounds;
}

module _ (old : Machine) (is : IsShaped old) where
  abbrev n : ℕ
  n = length old.history

  stepped : (p : ℕ) (events : List Event) (last : ℕ) → IsShaped (with_step old p events last)
  stepped p events last =
      let new : List Process = with_events old.history p events in
      let size : length new ≡ n = length_events old.history p events in
      shaped_at (with_step old p events last) n size is.marked is.barred
      (All-append (IsShapedRound n) old.rounds
      (newly_listed old.mode old.history new last) is.rounds
      (subst (λ (m : ℕ). All (IsShapedRound m) (newly_listed old.mode old.history new last)) size
      (newly_shaped old.mode old.history new last)))

  marked_more : (p c : ℕ) → IsShaped (record old { marks = with_mark old.marks p c })
  marked_more p c = record {
    marked = length-set old.marks.damaged p
        (damaged_at old.marks p ++ c ∷ []) ∙ is.marked;
    barred = is.barred;
    rounds = is.rounds;
  }

  barred_more : (p c : ℕ) → IsShaped (record old { marks = with_bar old.marks p c })
  barred_more p c = record {
    marked = is.marked;
    barred = length-set old.marks.bars p
        (Some c) ∙ is.barred;
    rounds = is.rounds;
  }

  back : (line : List Choice) → length line ≡ n → IsShaped (restarted_machine old line)
  back line size =
      shaped_at (restarted_machine old line) n (length_restarted old.history line size)
      (length_damage old.marks.damaged line (size ∙ sym is.marked) ∙ is.marked)
      (length-replicate (length old.marks.bars) None ∙ is.barred)
      (All-filter (stays line) (IsShapedRound n) old.rounds is.rounds)

  recovered : (failed : List Bool) (reply : Reply) (new : Machine)
      → RecoversWith old failed reply new → IsShaped new
  recovered failed (Recovered plan states incarnations) new does = subst IsShaped (sym does.new_is)
      (back plan.value.line does.plan_is.latest.recoverable.length_is)
  recovered failed (Sent m) new does = absurd does
  recovered failed (Took m forced) new does = absurd does
  recovered failed (Marked r forced) new does = absurd does
  recovered failed (Stale m) new does = absurd does
  recovered failed (Repeated m) new does = absurd does
  recovered failed (Checked at c) new does = absurd does
  recovered failed (Begun at c r) new does = absurd does
  recovered failed (Turned at c r) new does = absurd does
  recovered failed (Damaged at c) new does = absurd does
  recovered failed (Barred at c) new does = absurd does

  done : (step : Step) (reply : Reply) (new : Machine) → Does old step reply new → IsShaped new
  done (Send from to body) reply new does =
      let one = stepped from
      (SendEvent to (incarnation_at old.history from) body ∷ []) old.last_round in
      subst IsShaped (sym does.1)
      (record { marked = one.marked; barred = one.barred; rounds = one.rounds })
  done (Deliver from to pick state) reply new does = subst IsShaped (sym does.new_is)
      (stepped to (events_taken old.mode old.history from to state does.item) old.last_round)
  done (Check at state) reply new does =
      subst IsShaped (sym does.1) (stepped at (CheckEvent state None ∷ []) old.last_round)
  done (Begin at state) reply new does = subst IsShaped (sym does.1)
      (stepped at (CheckEvent state (Some (old.last_round + 1)) ∷ []) (old.last_round + 1))
  done (Turn at state) reply new does = subst IsShaped (sym does.1)
      (stepped at (CheckEvent state (Some old.last_round) ∷ []) old.last_round)
  done (Damage at check) reply new does = subst IsShaped (sym does.1) (marked_more at check)
  done (Bar at check) reply new does = subst IsShaped (sym does.1) (barred_more at check)
  done (Recover failed) reply new does = recovered failed reply new does

  pub stays_shaped : (step : Step) (answer : Answer) (new : Machine)
      → TakesWithRoom old step answer new → IsShaped new
  stays_shaped step (Done reply) new takes = done step reply new takes.1
  stays_shaped step (Refused e) new takes = subst IsShaped (sym takes.1) is

-- nor how many processes there are
long_recovered : (old : Machine) (failed : List Bool) (reply : Reply) (new : Machine)
    → RecoversWith old failed reply new → length new.history ≡ length old.history
long_recovered old failed (Recovered plan states incarnations) new does = ap
    (λ (m : Machine). length m.history) does.new_is ∙ length_restarted old.history plan.value.line
    does.plan_is.latest.recoverable.length_is
long_recovered old failed (Sent m) new does = absurd does
long_recovered old failed (Took m forced) new does = absurd does
long_recovered old failed (Marked r forced) new does = absurd does
long_recovered old failed (Stale m) new does = absurd does
long_recovered old failed (Repeated m) new does = absurd does
long_recovered old failed (Checked at c) new does = absurd does
long_recovered old failed (Begun at c r) new does = absurd does
long_recovered old failed (Turned at c r) new does = absurd does
long_recovered old failed (Damaged at c) new does = absurd does
long_recovered old failed (Barred at c) new does = absurd does

long_done : (old : Machine) (step : Step) (reply : Reply) (new : Machine) → Does old step reply new
    → length new.history ≡ length old.history
long_done old (Send from to body) reply new does = ap (λ (m : Machine). length m.history) does.1 ∙
    length_events old.history from (SendEvent to (incarnation_at old.history from) body ∷ [])
long_done old (Deliver from to pick state) reply new does = ap
    (λ (m : Machine). length m.history) does.new_is ∙ length_events old.history to
    (events_taken old.mode old.history from to state does.item)
long_done old (Check at state) reply new does = ap (λ (m : Machine). length m.history) does.1 ∙
    length_events old.history at (CheckEvent state None ∷ [])
long_done old (Begin at state) reply new does = ap (λ (m : Machine). length m.history) does.1 ∙
    length_events old.history at (CheckEvent state (Some (old.last_round + 1)) ∷ [])
long_done old (Turn at state) reply new does = ap (λ (m : Machine). length m.history) does.1 ∙
    length_events old.history at (CheckEvent state (Some old.last_round) ∷ [])
long_done old (Damage at check) reply new does = ap (λ (m : Machine). length m.history) does.1
long_done old (Bar at check) reply new does = ap (λ (m : Machine). length m.history) does.1
long_done old (Recover failed) reply new does = long_recovered old failed reply new does

pub stays_long : (old : Machine) (step : Step) (answer : Answer) (new : Machine)
    → TakesWithRoom old step answer new → length new.history ≡ length old.history
stays_long old step (Done reply) new takes = long_done old step reply new takes.1
stays_long old step (Refused e) new takes = ap (λ (m : Machine). length m.history) takes.1

pub takes_long : (old : Machine) (step : Step) (answer : Answer) (new : Machine)
    → Takes old step answer new → length new.history ≡ length old.history
takes_long old step (Done reply) new takes = long_done old step reply new takes.1
takes_long old step (Refused e) new takes = ap (λ (m : Machine). length m.history) takes.1

-- of listed rounds stays true what is true of each new one
module _ (P : ListedRound → Type 0)
    (each : (mode : Mode) (history : List Process) (r : ℕ) → P (listed_round mode history r)) where
  newly_all : (mode : Mode) (old new : List Process) (last : ℕ)
      → All P (newly_listed mode old new last)
  newly_all mode old new last = elim (is_completed mode new last && not
      (is_completed mode old last)) as (λ b. All P (cond b (listed_round mode new last ∷ []) [])) [
        | true ↦ All-cons P (listed_round mode new last) [] (each mode new last) (All-nil P)
        | false ↦ All-nil P
      ]

  module _ (old : Machine) (all : All P old.rounds) where
    grown : (p : ℕ) (events : List Event) (last : ℕ) → All P (with_step old p events last).rounds
    grown p events last =
        let new : List Process = with_events old.history p events in
        All-append P old.rounds (newly_listed old.mode old.history new last) all
        (newly_all old.mode old.history new last)

    abbrev Listed : Machine → Type 0
    Listed machine = All P machine.rounds

    listed_recovered : (failed : List Bool) (reply : Reply) (new : Machine)
        → RecoversWith old failed reply new → Listed new
    listed_recovered failed (Recovered plan states incarnations) new does =
        subst Listed (sym does.new_is) (All-filter (stays plan.value.line) P old.rounds all)
    listed_recovered failed (Sent m) new does = absurd does
    listed_recovered failed (Took m forced) new does = absurd does
    listed_recovered failed (Marked r forced) new does = absurd does
    listed_recovered failed (Stale m) new does = absurd does
    listed_recovered failed (Repeated m) new does = absurd does
    listed_recovered failed (Checked at c) new does = absurd does
    listed_recovered failed (Begun at c r) new does = absurd does
    listed_recovered failed (Turned at c r) new does = absurd does
    listed_recovered failed (Damaged at c) new does = absurd does
    listed_recovered failed (Barred at c) new does = absurd does

    listed_done : (step : Step) (reply : Reply) (new : Machine) → Does old step reply new
        → Listed new
    listed_done (Send from to body) reply new does = subst Listed (sym does.1)
        (grown from (SendEvent to (incarnation_at old.history from) body ∷ []) old.last_round)
    listed_done (Deliver from to pick state) reply new does = subst Listed (sym does.new_is)
        (grown to (events_taken old.mode old.history from to state does.item) old.last_round)
    listed_done (Check at state) reply new does =
        subst Listed (sym does.1) (grown at (CheckEvent state None ∷ []) old.last_round)
    listed_done (Begin at state) reply new does = subst Listed (sym does.1)
        (grown at (CheckEvent state (Some (old.last_round + 1)) ∷ []) (old.last_round + 1))
    listed_done (Turn at state) reply new does = subst Listed (sym does.1)
        (grown at (CheckEvent state (Some old.last_round) ∷ []) old.last_round)
    listed_done (Damage at check) reply new does = subst Listed (sym does.1) all
    listed_done (Bar at check) reply new does = subst Listed (sym does.1) all
    listed_done (Recover failed) reply new does = listed_recovered failed reply new does

    pub listed_taken : (step : Step) (answer : Answer) (new : Machine) → Takes old step answer new
        → Listed new
    listed_taken step (Done reply) new takes = listed_done step reply new takes.1
    listed_taken step (Refused e) new takes = subst Listed (sym takes.1) all

-- no check of a round that is new is an initial state
pub new_checked : (mode : Mode) (history : List Process) (r : ℕ)
    → AreChecks (listed_round mode history r).checks
new_checked mode history r = All-map (λ check. 1 ≤ check) (λ q. check_index r (tape_at history q))
    (range_with_len 0 (length history)) (λ k d within. omega arith)

-- whatever comes of a step
module _ (R : Type 0) (T : Answer → Type 0) (taken : (answer : Answer) → T answer → R) where
  pub whatever : (result : Result Reply StepError) → IfOk result (λ (reply : Reply). T (Done reply))
      → IfErr result (λ (e : StepError). e ≢ OutOfMemory → T (Refused e))
      → (IsErrOf result OutOfMemory → R) → R
  whatever (Ok reply) done refused memory = taken (Done reply) done
  whatever (Err OutOfMemory) done refused memory = memory refl
  whatever (Err NoSuchProcess) done refused memory =
      taken (Refused NoSuchProcess) (refused (λ e. cc e))
  whatever (Err TapeFull) done refused memory = taken (Refused TapeFull) (refused (λ e. cc e))
  whatever (Err NoSuchCheck) done refused memory = taken (Refused NoSuchCheck) (refused (λ e. cc e))
  whatever (Err StateTooLong) done refused memory =
      taken (Refused StateTooLong) (refused (λ e. cc e))
  whatever (Err InitialDamage) done refused memory =
      taken (Refused InitialDamage) (refused (λ e. cc e))
  whatever (Err AlreadyDamaged) done refused memory =
      taken (Refused AlreadyDamaged) (refused (λ e. cc e))
  whatever (Err ToSelf) done refused memory = taken (Refused ToSelf) (refused (λ e. cc e))
  whatever (Err LinkEmpty) done refused memory = taken (Refused LinkEmpty) (refused (λ e. cc e))
  whatever (Err BadPick) done refused memory = taken (Refused BadPick) (refused (λ e. cc e))
  whatever (Err RoundOpen) done refused memory = taken (Refused RoundOpen) (refused (λ e. cc e))
  whatever (Err NothingToTurn) done refused memory =
      taken (Refused NothingToTurn) (refused (λ e. cc e))
  whatever (Err WrongMode) done refused memory = taken (Refused WrongMode) (refused (λ e. cc e))
  whatever (Err NoMoreRounds) done refused memory =
      taken (Refused NoMoreRounds) (refused (λ e. cc e))
  whatever (Err NoMoreIncarnations) done refused memory =
      taken (Refused NoMoreIncarnations) (refused (λ e. cc e))
  whatever (Err BarNotLower) done refused memory = taken (Refused BarNotLower) (refused (λ e. cc e))

pub step_long : (old : Machine) (step : Step) (result : Result Reply StepError) (new : Machine)
    → IfOk result (λ (reply : Reply). Takes old step (Done reply) new)
    → IfErr result (λ (e : StepError). e ≢ OutOfMemory → Takes old step (Refused e) new)
    → (IsErrOf result OutOfMemory → new ≡ old) → length new.history ≡ length old.history
step_long old step result new done refused memory =
    whatever (length new.history ≡ length old.history) (λ answer. Takes old step answer new)
    (λ answer. takes_long old step answer new) result done refused
    (λ out. ap (λ (m : Machine). length m.history) (memory out))

pub starts_shaped : (n : ℕ) (mode : Mode) → IsShaped (start n mode)
starts_shaped n mode =
    let size : length (replicate n fresh) ≡ n = length-replicate n fresh in
    shaped_at (start n mode) n size (length-replicate n []) (length-replicate n None)
    (All-nil (IsShapedRound n))

-- no step changes the mode
mode_recovered : (old : Machine) (failed : List Bool) (reply : Reply) (new : Machine)
    → RecoversWith old failed reply new → new.mode ≡ old.mode
mode_recovered old failed (Recovered plan states incarnations) new does =
    ap (λ (m : Machine). m.mode) does.new_is
mode_recovered old failed (Sent m) new does = absurd does
mode_recovered old failed (Took m forced) new does = absurd does
mode_recovered old failed (Marked r forced) new does = absurd does
mode_recovered old failed (Stale m) new does = absurd does
mode_recovered old failed (Repeated m) new does = absurd does
mode_recovered old failed (Checked at c) new does = absurd does
mode_recovered old failed (Begun at c r) new does = absurd does
mode_recovered old failed (Turned at c r) new does = absurd does
mode_recovered old failed (Damaged at c) new does = absurd does
mode_recovered old failed (Barred at c) new does = absurd does

mode_done : (old : Machine) (step : Step) (reply : Reply) (new : Machine) → Does old step reply new
    → new.mode ≡ old.mode
mode_done old (Send from to body) reply new does = ap (λ (m : Machine). m.mode) does.1
mode_done old (Deliver from to pick state) reply new does = ap (λ (m : Machine). m.mode) does.new_is
mode_done old (Check at state) reply new does = ap (λ (m : Machine). m.mode) does.1
mode_done old (Begin at state) reply new does = ap (λ (m : Machine). m.mode) does.1
mode_done old (Turn at state) reply new does = ap (λ (m : Machine). m.mode) does.1
mode_done old (Damage at check) reply new does = ap (λ (m : Machine). m.mode) does.1
mode_done old (Bar at check) reply new does = ap (λ (m : Machine). m.mode) does.1
mode_done old (Recover failed) reply new does = mode_recovered old failed reply new does

pub stays_moded : (old : Machine) (step : Step) (answer : Answer) (new : Machine)
    → Takes old step answer new → new.mode ≡ old.mode
stays_moded old step (Done reply) new takes = mode_done old step reply new takes.1
stays_moded old step (Refused e) new takes = ap (λ (m : Machine). m.mode) takes.1
