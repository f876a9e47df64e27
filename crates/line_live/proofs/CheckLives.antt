-- A check, the beginning of a round, and a turn, which links in order refuse.
use Rattle.std.proofs.Common.{◌≡◌, ℕ, ◌+◌, ◌<◌, ◌≤◌, Bool, true, false, not, ◌&&◌, cond, List, []}
use Rattle.std.proofs.Common.{◌∷◌, ◌++◌, length, Option, Some, None, refl, sym, ap, ◌∙◌, subst}
use Rattle.std.proofs.Common.{arith, inl, inr}
use Rattle.std.specs.Prelude.{nat_le, ◌==◌}
use Rattle.std.specs.List.{list_any, range_with_len}
use Rattle.std.proofs.lemmas.Bool.{not-false, leb-false, ne_eqb, eqb-true, lt-ltb, cases_lt}
use Rattle.std.proofs.lemmas.Bool.{false_from_ne_true}
use Rattle.line_names.specs.declared.messages.MsgName.{MsgName}
use Rattle.line_tape.specs.declared.events.Event.{Event}
use Rattle.line_tape.specs.declared.events.Event.TheVariants.{Check as CheckEvent}
use Rattle.line_tape.specs.declared.items.Item.TheVariants.{Marker}
use Rattle.line_tape.specs.declared.limits.TheConstants.{LAST_ROUND}
use Rattle.line_tape.specs.Event.{checks}
use Rattle.line_tape.specs.Fit.{IsNextFifo}
use Rattle.line_tape.specs.Front.{HasChoice}
use Rattle.line_tape.specs.History.{Process, tape_at, with_event}
use Rattle.line_tape.specs.Rounds.{has_check_of, is_completed_fifo}
use Rattle.line_tape.specs.Views.{MarksView}
use Rattle.line_tape.specs.declared.modes.Mode.TheVariants.{Fifo}
use Rattle.line_tape.specs.declared.steps.Step.TheVariants.{Check, Begin, Turn}
use Rattle.line_moves.specs.Listed.{ListedRound, is_begun, newly_listed}
use Rattle.line_moves.specs.Moves.{next_check}
use Rattle.line_world.specs.declared.replies.Answer.{Answer}
use Rattle.line_world.specs.declared.replies.Answer.TheVariants.{Done, Refused}
use Rattle.line_world.specs.declared.replies.Reply.TheVariants.{Checked, Begun}
use Rattle.line_world.specs.declared.replies.StepError.{StepError}
use Rattle.line_world.specs.declared.replies.StepError.TheVariants.{NoSuchProcess, StateTooLong}
use Rattle.line_world.specs.declared.replies.StepError.TheVariants.{TapeFull, RoundOpen}
use Rattle.line_world.specs.declared.replies.StepError.TheVariants.{NoMoreRounds, WrongMode}
use Rattle.line_world.specs.declared.replies.StepError.TheVariants.{NothingToTurn}
use Rattle.line_world.specs.Machine.{Machine, is_open, with_step}
use Rattle.line_world.specs.Refusals.{first_cause, is_full, is_long, is_stranger, may_turn}
use Rattle.line_world.specs.Refusals.{IsRefused}
use Rattle.line_world.specs.Runs.{Takes}
use Rattle.line_cuts.specs.Cuts.{Floor, floor_check, lost_checks, cut_history}
use Rattle.line_cuts.proofs.ConsistentCuts.{tape_cut, floor_at}
use Rattle.line_cuts.proofs.LatestCuts.{length_history}
use Rattle.line_cuts.proofs.RoundCuts.{checked_cut, completed_cut}
use Rattle.line_cuts.proofs.SurvivalCuts.{checks_left}
use Rattle.line_live.specs.CutMachines.{cut_machine, whole_reply, AnswersAlike, IsBeside}
use Rattle.line_live.proofs.CauseLemmas.{passes, refused_alike, room_cases}
use Rattle.line_live.proofs.EventLives.{made, nothing_put, one_put, stranger_same, fuller}
use Rattle.line_live.proofs.EventLives.{step_same, beside_event, history_event, newly_event}
use Rattle.line_live.proofs.EventLives.{IsEventOn}
use Rattle.line_live.proofs.ListLemmas.{any_same, any_none}
use Rattle.line_live.proofs.ListingCuts.{unchecked_cut}

module _ (floor : Floor) (history : List Process) (marks : MarksView) (last : ℕ)
    (rounds : List ListedRound) (copies : List (List (List MsgName)))
    (is : IsBeside floor (made history marks last rounds copies)) (at : ℕ) (state : List ℕ) where
  abbrev old : Machine
  old = made history marks last rounds copies

  abbrev kept : Machine
  kept = cut_machine floor old

  abbrev cut_past : List Process
  cut_past = cut_history floor history

  -- the index of the check
  index_same : next_check cut_past at + lost_checks floor at ≡ next_check history at
  index_same =
      let exists : floor_check floor at ≤ checks (tape_at history at) = subst
      (HasChoice (tape_at history at)) (floor_at floor at) (is.is.line.exist at) in
      omega (
        arith,
        ap checks (tape_cut floor history at),
        checks_left floor at 0
            (floor_check floor at) (tape_at history at) exists,
      )

  -- a check of no round, or of one after the floor's that the tape has no check of
  pub check_on : (round : Option ℕ) → IsNextFifo history at (CheckEvent state round)
      → ((r : ℕ) → round ≡ Some r → floor.round < r)
      → IsEventOn floor history at (CheckEvent state round) (CheckEvent state round)
  check_on None next late = record {
    next = next;
    unchecked = λ r low. refl;
    unmarked = λ r p low. refl;
    put = λ p q. nothing_put floor (p == at);
    is_cut = refl;
  }
  check_on (Some r) next late = record {
    next = next;
    unchecked = λ s low. ne_eqb r s (λ e. omega (arith, late r refl));
    unmarked = λ s p low. refl;
    put = λ p q. one_put floor (Marker r) (p == at) true (late r refl);
    is_cut =
        ap (λ b. CheckEvent state (cond b (Some r) None) ∷ []) (lt-ltb floor.round r (late r refl));
  }

  abbrev check : Event
  check = CheckEvent state None

  no_round : (r : ℕ) → None ≡ Some r → floor.round < r
  no_round r e = absurd (cc)

  no_check : (r : ℕ) → false ≡ true → r ≡ last
  no_check r e = absurd (cc)

  same_last : (last ≡ last → ⊥) → is_begun history last ≡ true
      → is_completed_fifo history last ≡ true
  same_last other begun = absurd (other refl)

  check_causes : (full : Bool) → first_cause
      ((is_stranger kept at, NoSuchProcess) ∷ (is_long state, StateTooLong) ∷ (full, TapeFull) ∷ [])
      ≡ first_cause ((is_stranger old at, NoSuchProcess) ∷ (is_long state, StateTooLong)
      ∷ (full, TapeFull) ∷ [])
  check_causes full = ap (λ b. first_cause ((b, NoSuchProcess) ∷ (is_long state, StateTooLong)
      ∷ (full, TapeFull) ∷ [])) (stranger_same floor old at)

  pub check_alike : (answer : Answer) (cut : Machine) → Takes kept (Check at state) answer cut
      → AnswersAlike floor old (Check at state) answer cut
  check_alike (Done reply) cut (none, (reply_is, new_is)) =
      let causes : List (Bool × StepError) = (is_stranger old at, NoSuchProcess)
      ∷ (is_long state, StateTooLong) ∷ [] in
      let none' : first_cause (causes ++ (is_full kept at 1, TapeFull) ∷ [])
      ≡ None = sym (check_causes (is_full kept at 1)) ∙ none in
      let h : at < length history = leb-false (length history) at
      (passes (is_stranger old at) NoSuchProcess
      ((is_long state, StateTooLong) ∷ (is_full kept at 1, TapeFull) ∷ []) none').0 in
      let on = check_on None tt no_round in
      record {
        new = with_step old at (check ∷ []) last;
        takes = (
          room_cases causes (is_full kept at 1) (is_full old at 1) none',
          (ap (whole_reply floor) reply_is ∙ ap (λ c. Checked at c) index_same, refl),
        );
        beside = beside_event floor history marks last rounds copies is at check check h on last
            (omega arith) no_check same_last
            (rounds ++ newly_listed Fifo history (with_event history at check) last) copies;
        same = new_is ∙ step_same floor history marks last rounds copies
            (with_event history at check) (with_event cut_past at check)
            (history_event floor history marks last rounds copies is at check check h on last
            (omega arith) no_check same_last)
            (newly_event floor history marks last rounds copies is at check check h on last
            (omega arith) no_check same_last);
      }
  check_alike (Refused e) cut (refused, same) = record {
    new = old;
    takes = (
      refused_alike kept old (Check at state) e
          ((is_stranger old at, NoSuchProcess) ∷ (is_long state, StateTooLong) ∷ [])
          (is_full kept at 1) (is_full old at 1) (fuller floor old at 1) (λ late. late)
          (subst (IsRefused kept (Check at state) e) (check_causes (is_full kept at 1)) refused),
      refl,
    );
    beside = is;
    same = same;
  }

  -- a round is open there where it is in the whole
  pub open_same : is_open kept ≡ is_open old
  open_same = elim (cases_lt floor.round last) [
    | inl late ↦
        ap (λ b. b && not (is_completed_fifo cut_past last))
        (ap (λ n. list_any (λ p. has_check_of last (tape_at cut_past p)) (range_with_len 0 n))
        (length_history floor history)
        ∙ any_same (λ p. has_check_of last (tape_at cut_past p))
        (λ p. has_check_of last (tape_at history p)) (range_with_len 0 (length history))
        (λ p. checked_cut floor history is.old last late p))
        ∙ ap (λ b. is_begun history last && not b) (completed_cut floor history is.old last late)
    | inr low ↦
        ap (λ b. b && not (is_completed_fifo cut_past last))
        (any_none (λ p. has_check_of last (tape_at cut_past p))
        (range_with_len 0 (length cut_past)) (λ p. unchecked_cut floor history last p low))
        ∙ sym (elim (is_begun history last) as
        (λ b. is_begun history last ≡ b → (b && not (is_completed_fifo history last)) ≡ false) [
          | true ↦ λ e. ap not (is.closed last low e)
          | false ↦ λ e. refl
        ] refl)
  ]

  abbrev begun : Event
  begun = CheckEvent state (Some (last + 1))

  begin_causes : (full : Bool)
      → first_cause ((is_stranger kept at, NoSuchProcess) ∷ (is_long state, StateTooLong)
      ∷ (is_open kept, RoundOpen) ∷ (nat_le LAST_ROUND last, NoMoreRounds) ∷ (full, TapeFull) ∷ [])
      ≡ first_cause ((is_stranger old at, NoSuchProcess) ∷ (is_long state, StateTooLong) ∷
      (is_open old, RoundOpen) ∷ (nat_le LAST_ROUND last, NoMoreRounds) ∷ (full, TapeFull) ∷ [])
  begin_causes full =
      ap (λ b. first_cause
      ((b, NoSuchProcess) ∷ (is_long state, StateTooLong) ∷ (is_open kept, RoundOpen) ∷ (
        nat_le
            LAST_ROUND last,
        NoMoreRounds,
      ) ∷ (full, TapeFull) ∷ [])) (stranger_same floor old at)
      ∙ ap (λ b. first_cause
      ((is_stranger old at, NoSuchProcess) ∷ (is_long state, StateTooLong) ∷ (b, RoundOpen)
      ∷ (nat_le LAST_ROUND last, NoMoreRounds) ∷ (full, TapeFull) ∷ [])) open_same

  -- the next round is new
  is_new : has_check_of (last + 1) (tape_at history at) ≡ false
  is_new = false_from_ne_true (has_check_of (last + 1) (tape_at history at))
      (λ t. omega (arith, is.greatest at (last + 1) t))

  next_round : (r : ℕ) → Some (last + 1) ≡ Some r → floor.round < r
  next_round r e = let same : last + 1 ≡ r = cc e in omega (arith, is.round)

  next_only : (r : ℕ) → ((last + 1) == r) ≡ true → r ≡ last + 1
  next_only r e = sym (eqb-true (last + 1) r e)

  settled : is_open old ≡ false → (last ≡ last + 1 → ⊥) → is_begun history last ≡ true
      → is_completed_fifo history last ≡ true
  settled idle other begun = not-false (is_completed_fifo history last)
      (sym (ap (λ b. b && not (is_completed_fifo history last)) begun) ∙ idle)

  pub begin_alike : (answer : Answer) (cut : Machine) → Takes kept (Begin at state) answer cut
      → AnswersAlike floor old (Begin at state) answer cut
  begin_alike (Done reply) cut (none, (reply_is, new_is)) =
      let causes : List (Bool × StepError) = (is_stranger old at, NoSuchProcess) ∷ (
        is_long state,
        StateTooLong,
      ) ∷ (is_open old, RoundOpen) ∷ (nat_le LAST_ROUND last, NoMoreRounds) ∷ [] in
      let none' : first_cause (causes ++ (is_full kept at 1, TapeFull) ∷ [])
      ≡ None = sym (begin_causes (is_full kept at 1)) ∙ none in
      let rest2 : List (Bool × StepError) = (nat_le LAST_ROUND last, NoMoreRounds)
      ∷ (is_full kept at 1, TapeFull) ∷ [] in
      let rest1 : List (Bool × StepError) = (is_open old, RoundOpen) ∷ rest2 in
      let p1 = passes (is_stranger old at) NoSuchProcess
      ((is_long state, StateTooLong) ∷ rest1) none' in
      let p2 = passes (is_long state) StateTooLong rest1 p1.1 in
      let idle : is_open old ≡ false = (passes (is_open old) RoundOpen rest2 p2.1).0 in
      let h : at < length history = leb-false (length history) at p1.0 in
      let on = check_on (Some (last + 1)) is_new next_round in
      record {
        new = with_step old at (begun ∷ []) (last + 1);
        takes = (
          room_cases causes (is_full kept at 1) (is_full old at 1) none',
          (ap (whole_reply floor) reply_is ∙ ap (λ c. Begun at c (last + 1)) index_same, refl),
        );
        beside = beside_event floor history marks last rounds copies is at begun begun h on
            (last + 1) (omega arith) next_only (settled idle)
            (rounds ++ newly_listed Fifo history (with_event history at begun) (last + 1)) copies;
        same = new_is ∙ step_same floor history marks (last + 1) rounds copies
            (with_event history at begun) (with_event cut_past at begun)
            (history_event floor history marks last rounds copies is at begun begun h on (last + 1)
            (omega arith) next_only (settled idle))
            (newly_event floor history marks last rounds copies is at begun begun h on (last + 1)
            (omega arith) next_only (settled idle));
      }
  begin_alike (Refused e) cut (refused, same) = record {
    new = old;
    takes = (
      refused_alike kept old (Begin at state) e
          ((is_stranger old at, NoSuchProcess) ∷ (is_long state, StateTooLong)
          ∷ (is_open old, RoundOpen) ∷ (nat_le LAST_ROUND last, NoMoreRounds) ∷ [])
          (is_full kept at 1) (is_full old at 1) (fuller floor old at 1) (λ late. late)
          (subst (IsRefused kept (Begin at state) e) (begin_causes (is_full kept at 1)) refused),
      refl,
    );
    beside = is;
    same = same;
  }

  -- a turn is refused in any case
  turned : (b : Bool) (rest : List (Bool × StepError))
      → first_cause ((b, NoSuchProcess) ∷ (true, WrongMode) ∷ rest) ≡ None → ⊥
  turned true rest e = cc
  turned false rest e = cc

  unturned : (b : Bool) (e : StepError) (rest more : List (Bool × StepError))
      → IsRefused kept (Turn at state) e
      (first_cause ((b, NoSuchProcess) ∷ (true, WrongMode) ∷ rest)) → IsRefused old
      (Turn at state) e (first_cause ((b, NoSuchProcess) ∷ (true, WrongMode) ∷ more))
  unturned true e rest more r = r
  unturned false e rest more r = r

  pub turn_alike : (answer : Answer) (cut : Machine) → Takes kept (Turn at state) answer cut
      → AnswersAlike floor old (Turn at state) answer cut
  turn_alike (Done reply) cut (none, does) = absurd
      (turned (is_stranger kept at) ((is_long state, StateTooLong)
      ∷ (not (may_turn kept at), NothingToTurn) ∷ (is_full kept at 1, TapeFull) ∷ []) none)
  turn_alike (Refused e) cut (refused, same) = record {
    new = old;
    takes = (
      unturned (is_stranger old at) e
          ((is_long state, StateTooLong) ∷ (not (may_turn kept at), NothingToTurn)
          ∷ (is_full kept at 1, TapeFull) ∷ []) ((is_long state, StateTooLong)
          ∷ (not (may_turn old at), NothingToTurn) ∷ (is_full old at 1, TapeFull) ∷ [])
          (subst (λ b. IsRefused kept (Turn at state) e
          (first_cause
          ((b, NoSuchProcess) ∷ (true, WrongMode) ∷ (is_long state, StateTooLong)
          ∷ (not (may_turn kept at), NothingToTurn) ∷ (is_full kept at 1, TapeFull) ∷ [])))
          (stranger_same floor old at) refused),
      refl,
    );
    beside = is;
    same = same;
  }
