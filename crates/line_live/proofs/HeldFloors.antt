-- The floor in what is kept: each step keeps it, and where something is let go it moves on.
use Rattle.std.proofs.Common.{◌≡◌, ◌↔◌, ◌⊎◌, ℕ, zero, suc, ◌+◌, ◌-◌, ◌<◌, ◌≤◌, Bool, true, false}
use Rattle.std.proofs.Common.{not, ◌&&◌, ◌||◌, leb, eqb, List, [], ◌∷◌, ◌++◌, length, map, set}
use Rattle.std.proofs.Common.{get_or, Option, Some, None, refl, sym, ap, ◌∙◌, subst, arith, inl}
use Rattle.std.proofs.Common.{inr}
use Rattle.std.specs.Prelude.{nat_le, ◌==◌, IsTrue}
use Rattle.std.specs.List.{list_any, range_with_len, Contains}
use Rattle.std.proofs.lemmas.Bool.{cases_eq, cases_lt, le-leb, ne_eqb, false≢true}
use Rattle.std.proofs.lemmas.List.{get_or-set_same, get_or-set_other, get_or_past, length-map}
use Rattle.std.proofs.lemmas.List.{set_past}
use Rattle.std.proofs.lemmas.List.FromFn.{length-map-range_with_len, get_or-map-range_with_len}
use Rattle.line_names.specs.declared.choices.Choice.{Choice}
use Rattle.line_names.specs.declared.choices.Choice.TheVariants.{Check as AtCheck}
use Rattle.line_names.specs.declared.messages.MsgName.{MsgName}
use Rattle.line_names.specs.Lines.{choice_at, IsNowhereLater}
use Rattle.line_tape.specs.declared.events.Event.{Event}
use Rattle.line_tape.specs.declared.events.Event.TheVariants.{Send as SendEvent, Recv}
use Rattle.line_tape.specs.declared.events.Event.TheVariants.{Check as CheckEvent}
use Rattle.line_tape.specs.Event.{checks}
use Rattle.line_tape.specs.Fit.{IsFitUnordered}
use Rattle.line_tape.specs.Front.{front, HasChoice}
use Rattle.line_tape.specs.History.{Process, incarnation_at, process_at, tape_at, with_event}
use Rattle.line_tape.specs.Line.{IsConsistent, IsLine}
use Rattle.line_tape.specs.Restart.{is_kept, restarted_damage, restarted_history, restarted_marks}
use Rattle.line_tape.specs.Survival.{survives, is_allowed, is_damaged, IsLatest, IsRecoverable}
use Rattle.line_tape.specs.Views.{MarksView, bar_at, damaged_at, with_bar, with_mark}
use Rattle.line_tape.proofs.ChoiceLemmas.{IsNoLater-refl, survives_within}
use Rattle.line_tape.proofs.EventLemmas.{tape_grows}
use Rattle.line_laws.proofs.RoundLines.{checks-append}
use Rattle.line_tape.specs.declared.steps.Step.{Step}
use Rattle.line_tape.specs.declared.steps.Step.TheVariants.{Send, Deliver, Check, Begin, Turn}
use Rattle.line_tape.specs.declared.steps.Step.TheVariants.{Damage, Bar, Recover}
use Rattle.line_moves.specs.Fates.{events_taken}
use Rattle.line_moves.specs.Moves.{with_events}
use Rattle.line_moves.proofs.LinkLemmas.{length-with_event}
use Rattle.line_world.specs.declared.replies.Answer.{Answer}
use Rattle.line_world.specs.declared.replies.Answer.TheVariants.{Done, Refused}
use Rattle.line_world.specs.declared.replies.Reply.{Reply}
use Rattle.line_world.specs.declared.replies.Reply.TheVariants.{Sent, Took, Marked, Stale, Repeated}
use Rattle.line_world.specs.declared.replies.Reply.TheVariants.{Checked, Begun, Turned, Damaged}
use Rattle.line_world.specs.declared.replies.Reply.TheVariants.{Barred, Recovered}
use Rattle.line_world.specs.Machine.{Machine}
use Rattle.line_world.specs.Runs.{Takes}
use Rattle.line_world.specs.Steps.{Does, RecoversWith}
use Rattle.line_cuts.specs.Cuts.{Floor, FloorSurvives, IsFloor, cut_choice, cut_history, cut_line}
use Rattle.line_cuts.specs.Cuts.{cut_marks, floor_check, floor_line, lost_checks, lost_sends}
use Rattle.line_cuts.specs.Cuts.{whole_floor}
use Rattle.line_cuts.specs.Marks.{AreSameMarks}
use Rattle.line_cuts.proofs.ConsistentCuts.{choice_cut, floor_at}
use Rattle.line_cuts.proofs.FloorStays.{floor_event, floor_restarted}
use Rattle.line_cuts.proofs.LatestCuts.{floor_recoverable, length_cut, recoverable_cut, same_line}
use Rattle.line_cuts.proofs.SameLemmas.{survives_same}
use Rattle.line_cuts.proofs.SurvivalCuts.{undamaged}
use Rattle.line_live.specs.CutMachines.{cut_step, SparesFloor}
use Rattle.line_live.proofs.EventLives.{survives_more}
use Rattle.line_live.proofs.RestartCuts.{any_kept, none_at}
use Rattle.line_live.specs.Lived.{LetsNothingGo}
use Rattle.line_live.specs.Lives.{floor_refusal}
use Rattle.line_live.specs.Resumed.{kept_floor, HasFloor}
use Rattle.line_live.proofs.ForgetLemmas.{whoever}
use Rattle.line_live.proofs.WholeLives.{spares, spares_bar, DamagesInitial}

-- the check that a process begins with, in what is kept
pub first_at : (floor : Floor) (p : ℕ)
    → floor_check (kept_floor floor) p ≡ floor_check floor p - lost_checks floor p
first_at floor p =
    let n : ℕ = length floor.checks in
    let f : ℕ → ℕ = λ q. get_or floor.checks q 0 - lost_checks floor q in
    elim (cases_lt p n) [
      | inl within ↦ get_or-map-range_with_len f 0 n p p 0 within (omega arith)
      | inr past ↦
          let none : 0 ≡ floor_check floor p - lost_checks floor p = omega
          (arith, get_or_past floor.checks p 0 past) in
          get_or_past (map f (range_with_len 0 n)) p 0
          (omega (arith, past, length-map-range_with_len f 0 n)) ∙ none
    ]

-- of as many processes
pub first_size : (floor : Floor) → length (kept_floor floor).checks ≡ length floor.checks
first_size floor = length-map-range_with_len (λ q. get_or floor.checks q 0 - lost_checks floor q) 0
    (length floor.checks)

-- no more is let go of what is kept
nothing_more : (floor : Floor) (p : ℕ) → lost_sends (kept_floor floor) p ≡ 0
nothing_more floor p = get_or_past [] p 0 (omega arith)

pub holds_floor : (history : List Process) (marks : MarksView) (floor : Floor)
    → IsLine history (floor_line (kept_floor floor)) → IsConsistent history
    (floor_line (kept_floor floor)) → FloorSurvives history marks (kept_floor floor)
    → HasFloor history marks floor
holds_floor history marks floor line consistent stays = record {
  is = record {
    line = line;
    consistent = consistent;
    sent = λ p. omega (arith, nothing_more floor p);
    received = λ q m sent below. absurd (omega (arith, below, nothing_more floor m.from));
  };
  stays = stays;
}

-- whether the line of the checks that processes begin with is consistent is whether what is kept
-- has
-- the floor
pub held_where : (floor : Floor) (history known : List Process) (marks : MarksView) (line : List
    Choice) → known ≡ history → line ≡ floor_line (kept_floor floor) → IsLine known line
    → FloorSurvives history marks (kept_floor floor) → (b : Bool)
    → IsTrue b ↔ IsConsistent history line → IsTrue b ↔ HasFloor history marks floor
held_where floor history known marks line known_is line_is is_line stays b both =
    let there : IsLine history (floor_line (kept_floor floor)) = subst (IsLine history) line_is
    (subst (λ (h : List Process). IsLine h line) known_is is_line) in (
      λ t. holds_floor history marks floor there
          (subst (IsConsistent history) line_is (both.0 t)) stays,
      λ held. both.1 (subst (IsConsistent history) (sym line_is) held.is.consistent),
    )

-- as long as nothing was let go, each process begins with its initial state
module _ (floor : Floor) (history : List Process) (marks : MarksView) (none : LetsNothingGo floor)
    (count : length floor.checks ≡ length history) where
  initial : (p : ℕ) → floor_check (kept_floor floor) p ≡ 0
  initial p = omega (arith, first_at floor p, (none p).0)

  initial_at : (p : ℕ) → choice_at (floor_line (kept_floor floor)) p ≡ AtCheck 0
  initial_at p = floor_at (kept_floor floor) p ∙ ap (λ c. AtCheck c) (initial p)

  pub nothing_held : HasFloor history marks floor
  nothing_held =
      holds_floor history marks floor
      (record {
        length_is =
            length-map (kept_floor floor).checks (λ c. AtCheck c) ∙ first_size floor ∙ count;
        exist = λ p. subst (HasChoice (tape_at history p)) (sym (initial_at p)) (omega arith);
      })
      (λ q m received.
      let before : List Event = front (tape_at history q) (AtCheck 0) in
      absurd (nowhere m (subst (λ (choice : Choice). Contains (front (tape_at history q) choice)
      (Recv m)) (initial_at q) received)))
      (λ p within. subst (λ (c : ℕ). IsTrue (survives history marks [] p (AtCheck c)))
      (sym (initial p)) refl)
    where
      nowhere : (m : MsgName) → Contains [] (Recv m) → ⊥
      nowhere m there = absurd (omega (arith, there.1))

-- one mark more
any_more : (c d : ℕ) (xs : List ℕ) → eqb d c ≡ false
    → list_any (λ x. x == c) (xs ++ d ∷ []) ≡ list_any (λ x. x == c) xs
any_more c d [] other = ap (λ b. b || false) other
any_more c d (x ∷ xs) other = ap (λ b. (x == c) || b) (any_more c d xs other)

-- a restart marks nothing
none_marked : (damaged : List (List ℕ)) (line : List Choice) (p c : ℕ)
    → list_any (λ d. d == c) (get_or damaged p []) ≡ false
    → list_any (λ d. d == c) (get_or (restarted_damage damaged line) p []) ≡ false
none_marked [] line p c none = none
none_marked (xs ∷ rest) [] p c none =
    ap (λ (ys : List ℕ). list_any (λ d. d == c) ys) (get_or_past [] p [] (omega arith))
none_marked (xs ∷ rest) (choice ∷ line) zero c none = any_kept c (is_kept choice) xs none
none_marked (xs ∷ rest) (choice ∷ line) (suc p) c none = none_marked rest line p c none

-- an allowed choice for another
still : (a b y z : Bool) → (a && b && y) ≡ true → (y ≡ true → z ≡ true) → (a && b && z) ≡ true
still true true y z s more = more s
still true false y z s more = absurd (false≢true s)
still false b y z s more = absurd (false≢true s)

module _ (floor : Floor) where
  abbrev first : ℕ → ℕ
  first p = floor_check (kept_floor floor) p

  -- one event more
  one_event : (history : List Process) (marks : MarksView) (at : ℕ) (e : Event)
      → HasFloor history marks floor → HasFloor (with_event history at e) marks floor
  one_event history marks at e held = elim (cases_lt at (length history)) [
    | inl within ↦ record {
      is = floor_event history (kept_floor floor) held.is at e within;
      stays = λ p l.
          let grows = tape_grows history at e p within in
          let more : checks (tape_at history p) ≤ checks (tape_at (with_event history at e) p) =
          omega (arith, ap checks grows.1, checks-append (tape_at history p) grows.0) in
          survives_more history (with_event history at e) marks p (first p) more
          (held.stays p (omega (arith, l, length-with_event history at e)));
    }
    | inr past ↦ subst (λ (h : List Process). HasFloor h marks floor) (sym (set_past history at
        (record (process_at history at) { tape = tape_at history at ++ e ∷ [] }) past)) held
  ]

  more_events : (events : List Event) (history : List Process) (marks : MarksView) (at : ℕ)
      → HasFloor history marks floor → HasFloor (with_events history at events) marks floor
  more_events [] history marks at held = held
  more_events (e ∷ events) history marks at held =
      more_events events (with_event history at e) marks at (one_event history marks at e held)

  module _ (history : List Process) (marks : MarksView) (held : HasFloor history marks floor) where
    -- a mark on another check
    unmarked : (at c p k : ℕ) → (p ≡ at → c ≡ k → ⊥) → IsTrue (survives history marks [] p
        (AtCheck k)) → IsTrue (survives history (with_mark marks at c) [] p (AtCheck k))
    unmarked at c p zero other s = refl
    unmarked at c p (suc k) other s =
        let same : is_damaged (with_mark marks at c) p (suc k)
        ≡ is_damaged marks p (suc k) = elim (cases_eq p at) [
          | inl here ↦ elim (cases_lt at (length marks.damaged)) [
            | inl within ↦
                ap (λ q. list_any (λ d. d == suc k)
                (get_or (set marks.damaged at (damaged_at marks at ++ c ∷ [])) q [])) here
                ∙ ap (λ (xs : List ℕ). list_any (λ d. d == suc k) xs)
                (get_or-set_same marks.damaged at (damaged_at marks at ++ c ∷ []) [] within)
                ∙ any_more (suc k) c (damaged_at marks at) (ne_eqb c (suc k) (other here))
                ∙ sym (ap (λ q. list_any (λ d. d == suc k) (damaged_at marks q)) here)
            | inr past ↦ ap (λ (xs : List (List ℕ)). list_any (λ d. d == suc k) (get_or xs p []))
                (set_past marks.damaged at (damaged_at marks at ++ c ∷ []) past)
          ]
          | inr apart ↦ ap (λ (xs : List ℕ). list_any (λ d. d == suc k) xs)
              (get_or-set_other marks.damaged at p (damaged_at marks at ++ c ∷ []) [] apart)
        ] in
        ap (λ b. nat_le (suc k) (checks (tape_at history p)) && not b
        && is_allowed (bar_at marks p) (AtCheck (suc k))) same ∙ s

    mark_held : (at c : ℕ) → (c ≡ first at → ⊥) → HasFloor history (with_mark marks at c) floor
    mark_held at c other = record {
      is = held.is;
      stays = λ p l. unmarked at c p (first p) (λ here same. other (same ∙ ap first here))
          (held.stays p l);
    }

    -- a bar no lower
    allows : (at c p k : ℕ) → (p ≡ at → k ≤ c) → is_allowed (bar_at marks p) (AtCheck k) ≡ true
        → is_allowed (bar_at (with_bar marks at c) p) (AtCheck k) ≡ true
    allows at c p k low s = elim (cases_eq p at) [
      | inl here ↦ elim (cases_lt at (length marks.bars)) [
        | inl within ↦
            ap (λ q. is_allowed (get_or (set marks.bars at (Some c)) q None) (AtCheck k)) here
            ∙ ap (λ (o : Option ℕ). is_allowed o (AtCheck k))
            (get_or-set_same marks.bars at (Some c) None within)
            ∙ le-leb k c (low here)
        | inr past ↦ ap (λ (xs : List (Option ℕ)). is_allowed (get_or xs p None) (AtCheck k))
            (set_past marks.bars at (Some c) past) ∙ s
      ]
      | inr apart ↦ ap (λ (o : Option ℕ). is_allowed o (AtCheck k))
          (get_or-set_other marks.bars at p (Some c) None apart) ∙ s
    ]

    unbarred : (at c p k : ℕ) → (p ≡ at → k ≤ c) → IsTrue (survives history marks [] p (AtCheck k))
        → IsTrue (survives history (with_bar marks at c) [] p (AtCheck k))
    unbarred at c p zero low s = refl
    unbarred at c p (suc k) low s =
        still (nat_le (suc k) (checks (tape_at history p))) (not (is_damaged marks p (suc k)))
        (is_allowed (bar_at marks p) (AtCheck (suc k)))
        (is_allowed (bar_at (with_bar marks at c) p) (AtCheck (suc k))) s
        (allows at c p (suc k) low)

    bar_held : (at c : ℕ) → first at ≤ c → HasFloor history (with_bar marks at c) floor
    bar_held at c low = record {
      is = held.is;
      stays = λ p l. unbarred at c p (first p) (λ here. omega (arith, low, ap first here))
          (held.stays p l);
    }

    -- past the processes there is no floor
    pub first_past : (p : ℕ) → length history ≤ p → first p ≡ 0
    first_past p past = get_or_past (kept_floor floor).checks p 0 (omega (
      arith,
      past,
      length-map
          (kept_floor floor).checks (λ c. AtCheck c),
      held.is.line.length_is,
    ))

    -- it is a line that may be gone on from, whoever failed
    pub first_recoverable : (failed : List Bool)
        → IsRecoverable history marks failed (floor_line (kept_floor floor))
    first_recoverable failed = record {
      length_is = held.is.line.length_is;
      surviving = λ p.
          ap (survives history marks failed p) (floor_at (kept_floor floor) p)
          ∙ whoever history marks failed p (first p)
          ∙ elim (cases_lt p (length history)) [
            | inl within ↦ held.stays p within
            | inr past ↦ ap (λ c. survives history marks [] p (AtCheck c)) (first_past p past)
          ];
      consistent = held.is.consistent;
    }

    -- so no latest line is before it
    pub first_reached : (failed : List Bool) (line : List Choice)
        → IsLatest history marks failed line → IsNowhereLater (floor_line (kept_floor floor)) line
    first_reached failed line latest =
        latest.latest (floor_line (kept_floor floor)) (first_recoverable failed)

    -- a restart
    restart_held : (failed : List Bool) (line : List Choice) → IsLatest history marks failed line
        → HasFloor (restarted_history history line) (restarted_marks marks line) floor
    restart_held failed line latest =
        record { is = is; stays = λ p l. at p (first p) refl (held.stays p (within p l)) }
      where
        new : List Process
        new = restarted_history history line

        is : IsFloor new (kept_floor floor)
        is = floor_restarted history (kept_floor floor) held.is line latest.recoverable.length_is
            (first_reached failed line latest)

        within : (p : ℕ) → p < length new → p < length history
        within p l = omega (arith, l, is.line.length_is, held.is.line.length_is)

        there : (p : ℕ) → first p ≤ checks (tape_at new p)
        there p =
            subst (HasChoice (tape_at new p)) (floor_at (kept_floor floor) p) (is.line.exist p)

        at : (p c : ℕ) → c ≡ first p → IsTrue (survives history marks [] p (AtCheck c))
            → IsTrue (survives new (restarted_marks marks line) [] p (AtCheck c))
        at p zero e s = refl
        at p (suc c) e s =
            let clear : is_damaged (restarted_marks marks line) p (suc c)
            ≡ false = none_marked marks.damaged line p (suc c)
            (undamaged (leb (suc c) (checks (tape_at history p))) (is_damaged marks p (suc c))
            (is_allowed (bar_at marks p) (AtCheck (suc c))) s) in
            ap (λ b. b && not (is_damaged (restarted_marks marks line) p (suc c))
            && is_allowed (bar_at (restarted_marks marks line) p) (AtCheck (suc c)))
            (le-leb (suc c) (checks (tape_at new p)) (omega (arith, e, there p)))
            ∙ ap (λ b. not b
            && is_allowed (bar_at (restarted_marks marks line) p) (AtCheck (suc c))) clear
            ∙ ap (λ (o : Option ℕ). is_allowed o (AtCheck (suc c))) (none_at (length marks.bars) p)

  -- a step that nothing which was let go refuses
  module _ (old : Machine) (held : HasFloor old.history old.marks floor) where
    abbrev Held : Machine → Type 0
    Held machine = HasFloor machine.history machine.marks floor

    recovered : (failed : List Bool) (reply : Reply) (new : Machine)
        → RecoversWith old failed reply new → Held new
    recovered failed (Recovered plan states incarnations) new does = subst Held (sym does.new_is)
        (restart_held old.history old.marks held failed plan.value.line does.plan_is.latest)
    recovered failed (Sent m) new does = absurd does
    recovered failed (Took m forced) new does = absurd does
    recovered failed (Marked r forced) new does = absurd does
    recovered failed (Stale m) new does = absurd does
    recovered failed (Repeated m) new does = absurd does
    recovered failed (Checked at c) new does = absurd does
    recovered failed (Begun at c r) new does = absurd does
    recovered failed (Turned at c r) new does = absurd does
    recovered failed (Damaged at c) new does = absurd does
    recovered failed (Barred at c) new does = absurd does

    -- neither a mark on a check after the floor nor one on an initial state is on it
    damage_other : (at c : ℕ) → SparesFloor floor (Damage at c) ⊎ DamagesInitial floor (Damage at c)
        → (c - lost_checks floor at ≡ first at → ⊥) ⊎ (first at ≡ 0)
    damage_other at c (inl above) = inl (λ same. omega (arith, above, same, first_at floor at))
    damage_other at c (inr (other, same)) = elim (cases_eq (first at) 0) [
      | inl zero_is ↦ inr zero_is
      | inr some ↦ inl (λ e. let zero_is : c ≡ 0 = cc same in some (omega (arith, e, zero_is)))
    ]

    damage_held : (at c : ℕ) → (c ≡ first at → ⊥) ⊎ (first at ≡ 0)
        → HasFloor old.history (with_mark old.marks at c) floor
    damage_held at c (inl other) = mark_held old.history old.marks held at c other
    damage_held at c (inr none) = record {
      is = held.is;
      stays = λ p l. elim (cases_eq p at) [
        | inl here ↦ subst (λ k. IsTrue (survives old.history (with_mark old.marks at c) [] p
            (AtCheck k))) (sym (ap first here ∙ none)) refl
        | inr apart ↦ unmarked old.history old.marks held at c p (first p)
            (λ here. absurd (apart here)) (held.stays p l)
      ];
    }

    done : (step : Step) (reply : Reply) (new : Machine) → floor_refusal floor step ≡ None
        → Does old (cut_step floor step) reply new → Held new
    done (Send from to body) reply new none does = subst Held (sym does.1) (more_events
        (SendEvent to (incarnation_at old.history from) body ∷ []) old.history old.marks from held)
    done (Deliver from to pick state) reply new none does = subst Held (sym does.new_is)
        (more_events
        (events_taken old.mode old.history from to state does.item) old.history old.marks to held)
    done (Check at state) reply new none does = subst Held (sym does.1)
        (more_events (CheckEvent state None ∷ []) old.history old.marks at held)
    done (Begin at state) reply new none does = subst Held (sym does.1) (more_events
        (CheckEvent state (Some (old.last_round + 1)) ∷ []) old.history old.marks at held)
    done (Turn at state) reply new none does = subst Held (sym does.1)
        (more_events (CheckEvent state (Some old.last_round) ∷ []) old.history old.marks at held)
    done (Damage at c) reply new none does = subst Held (sym does.1) (damage_held at
        (c - lost_checks floor at) (damage_other at c (spares floor (Damage at c) none)))
    done (Bar at c) reply new none does =
        let low : floor_check floor at ≤ c = spares_bar floor at c none in
        subst Held (sym does.1) (bar_held old.history old.marks held at (c - lost_checks floor at)
        (omega (arith, low, first_at floor at)))
    done (Recover failed) reply new none does = recovered failed reply new does

    pub held_taken : (step : Step) (answer : Answer) (new : Machine)
        → floor_refusal floor step ≡ None → Takes old (cut_step floor step) answer new → Held new
    held_taken step (Done reply) new none takes = done step reply new none takes.1
    held_taken step (Refused e) new none takes = subst Held (sym takes.1) held

-- what stands before a later floor is let go
module _ (floor later : Floor) (history : List Process) (marks : MarksView)
    (fit : IsFitUnordered history) (is : IsFloor history later) (stays : FloorSurvives history marks
    later) (further : (p : ℕ) → 1 ≤ floor_check floor p → 1 ≤ floor_check later p) where
  abbrev both : Floor
  both = whole_floor floor later

  -- the processes begin with the checks of the later floor
  both_at : (p : ℕ) → floor_check both p ≡ floor_check later p + lost_checks floor p
  both_at p =
      let n : ℕ = length later.checks in
      let f : ℕ → ℕ = λ q. floor_check later q + lost_checks floor q in
      elim (cases_lt p n) [
        | inl within ↦ get_or-map-range_with_len f 0 n p p 0 within (omega arith)
        | inr past ↦
            let low : floor_check later p ≡ 0 = get_or_past later.checks p 0 past in
            let none : 0 ≡ floor_check later p + lost_checks floor p = elim
            (cases_lt 0 (floor_check floor p)) [
              | inl some ↦ absurd (omega (arith, low, further p some))
              | inr low_too ↦ omega (arith, low, low_too)
            ] in
            get_or_past (map f (range_with_len 0 n)) p 0
            (omega (arith, past, length-map-range_with_len f 0 n)) ∙ none
      ]

  first_both : (p : ℕ) → floor_check (kept_floor both) p ≡ floor_check later p - lost_checks later p
  first_both p = elim (cases_lt 0 (floor_check floor p)) [
    | inl some ↦ omega (arith, first_at both p, both_at p, some, further p some)
    | inr initial_is ↦ omega (arith, first_at both p, both_at p, initial_is)
  ]

  line_same : floor_line (kept_floor both) ≡ cut_line later (floor_line later)
  line_same =
      same_line (floor_line (kept_floor both)) (cut_line later (floor_line later))
      (length-map (kept_floor both).checks
      (λ c. AtCheck c) ∙ first_size both ∙ length-map-range_with_len
      (λ q. floor_check later q + lost_checks floor q) 0 (length later.checks)
      ∙ sym (length_cut later (floor_line later) ∙ length-map later.checks (λ c. AtCheck c)))
      (λ p. floor_at (kept_floor both) p ∙ ap (λ c. AtCheck c) (first_both p) ∙ sym
      (choice_cut later (floor_line later) p ∙ ap (cut_choice later p) (floor_at later p)))

  left : IsRecoverable (cut_history later history) (cut_marks later marks) []
      (floor_line (kept_floor both))
  left =
      subst (IsRecoverable (cut_history later history) (cut_marks later marks) []) (sym line_same)
      (recoverable_cut later history marks [] fit is stays (floor_line later) (λ q. IsNoLater-refl
      (choice_at (floor_line later) q)) (floor_recoverable later history marks [] fit is stays))

  left_survives : (p : ℕ) → IsTrue (survives (cut_history later history)
      (cut_marks later marks) [] p (AtCheck (floor_check (kept_floor both) p)))
  left_survives p = subst (λ (choice : Choice). IsTrue (survives (cut_history later history)
      (cut_marks later marks) [] p choice)) (floor_at (kept_floor both) p) (left.surviving p)

  pub moved_on : (new : List Process) (others : MarksView) → new ≡ cut_history later history
      → AreSameMarks others (cut_marks later marks) → HasFloor new others both
  moved_on new others new_is same =
      let cut : List Process = cut_history later history in
      subst (λ (h : List Process). HasFloor h others both) (sym new_is)
      (holds_floor cut others both
      (record {
        length_is = left.length_is;
        exist = λ p. subst (HasChoice (tape_at cut p)) (sym (floor_at (kept_floor both) p))
            (survives_within cut (cut_marks later marks) [] p (floor_check (kept_floor both) p)
            (left_survives p));
      })
      left.consistent
      (λ p within. survives_same cut others (cut_marks later marks) [] same p
      (AtCheck (floor_check (kept_floor both) p)) ∙ left_survives p))
