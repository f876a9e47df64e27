-- A recovery: what is planned, what the processes go on from, and what stays beside it.
use Rattle.std.proofs.Common.{◌≡◌, ℕ, zero, suc, ◌+◌, ◌-◌, ◌<◌, ◌≤◌, Bool, true, false, not, ◌&&◌}
use Rattle.std.proofs.Common.{leb, List, [], ◌∷◌, length, take, drop, map, get_or, replicate}
use Rattle.std.proofs.Common.{Option, Some, None, refl, sym, ap, ◌∙◌, subst, arith, inl, inr}
use Rattle.std.specs.Prelude.{nat_le, nat_lt, ◌==◌, IsTrue}
use Rattle.std.specs.List.{All, filter, list_all, list_any, range_with_len}
use Rattle.std.proofs.lemmas.Bool.{cases_lt, leb-true, le-leb, false≢true}
use Rattle.std.proofs.lemmas.List.{length-map, length-replicate, get_or_past}
use Rattle.std.proofs.lemmas.List.Elements.{All-filter, All-map, All-nil, All-cons}
use Rattle.std.proofs.lemmas.List.FromFn.{length-map-range_with_len, get_or-map-range_with_len}
use Rattle.line_names.specs.declared.choices.Choice.{Choice}
use Rattle.line_names.specs.declared.choices.Choice.TheVariants.{Check as AtCheck}
use Rattle.line_names.specs.declared.messages.MsgName.{MsgName}
use Rattle.line_names.specs.Lines.{choice_at, IsNowhereLater}
use Rattle.line_names.specs.Order.{IsNoLater}
use Rattle.line_tape.specs.declared.events.Event.{Event}
use Rattle.line_tape.specs.declared.events.Event.TheVariants.{Send, Recv, Check, Mark}
use Rattle.line_tape.specs.declared.items.Item.TheVariants.{Message}
use Rattle.line_tape.specs.Event.{checks}
use Rattle.line_tape.specs.Fit.{IsFitUnordered, link}
use Rattle.line_tape.specs.Front.{place, HasChoice}
use Rattle.line_tape.specs.History.{Process, process_at, tape_at}
use Rattle.line_tape.specs.Line.{events_before}
use Rattle.line_tape.specs.Restart.{is_kept, restarted_damage, restarted_history, restarted_marks}
use Rattle.line_tape.specs.Restart.{HasFurther, HaveFurther}
use Rattle.line_tape.specs.Rounds.{has_check_of, rounds_checked}
use Rattle.line_tape.specs.Survival.{survives, is_allowed, is_damaged}
use Rattle.line_tape.specs.Transit.{goes_between, in_transit, in_transit_between}
use Rattle.line_tape.specs.Views.{MarksView, bar_at, damaged_at}
use Rattle.line_tape.proofs.EachLemmas.{damage-each, each_at, kept_damage, length-each}
use Rattle.line_laws.proofs.CompletionLemmas.{no_check_restarted, no_rounds_restarted}
use Rattle.line_laws.proofs.LetterLemmas.{open_are, parts}
use Rattle.line_laws.proofs.LinkLemmas.{restart_fit, restart_link}
use Rattle.line_laws.proofs.OrderLemmas.{ordered_fit}
use Rattle.line_laws.proofs.RoundLines.{in_range}
use Rattle.line_plan.specs.declared.plans.Plan.{Plan}
use Rattle.line_tape.specs.declared.steps.Step.TheVariants.{Recover}
use Rattle.line_moves.specs.Listed.{ListedRound, check_in, is_begun, stays}
use Rattle.line_moves.specs.Restarts.{restored_state, restored_states}
use Rattle.line_world.specs.declared.replies.Answer.{Answer}
use Rattle.line_world.specs.declared.replies.Answer.TheVariants.{Done, Refused}
use Rattle.line_world.specs.declared.replies.Reply.{Reply}
use Rattle.line_world.specs.declared.replies.Reply.TheVariants.{Sent, Took, Marked, Stale, Repeated}
use Rattle.line_world.specs.declared.replies.Reply.TheVariants.{Checked, Begun, Turned, Damaged}
use Rattle.line_world.specs.declared.replies.Reply.TheVariants.{Barred, Recovered}
use Rattle.line_world.specs.declared.replies.StepError.{StepError}
use Rattle.line_world.specs.declared.replies.StepError.TheVariants.{OutOfMemory, NoSuchProcess}
use Rattle.line_world.specs.declared.replies.StepError.TheVariants.{TapeFull, NoSuchCheck}
use Rattle.line_world.specs.declared.replies.StepError.TheVariants.{StateTooLong, InitialDamage}
use Rattle.line_world.specs.declared.replies.StepError.TheVariants.{AlreadyDamaged, ToSelf}
use Rattle.line_world.specs.declared.replies.StepError.TheVariants.{LinkEmpty, BadPick, RoundOpen}
use Rattle.line_world.specs.declared.replies.StepError.TheVariants.{NothingToTurn, WrongMode}
use Rattle.line_world.specs.declared.replies.StepError.TheVariants.{NoMoreRounds}
use Rattle.line_world.specs.declared.replies.StepError.TheVariants.{NoMoreIncarnations, BarNotLower}
use Rattle.line_world.specs.Machine.{Machine}
use Rattle.line_world.specs.Refusals.{first_cause, refusal_of, IsLateCause, IsRefused, IsSpent}
use Rattle.line_world.specs.Runs.{Takes}
use Rattle.line_world.specs.Steps.{restarted_machine, IsPlan, RecoversWith}
use Rattle.line_cuts.specs.Cuts.{Floor, lost_sends, floor_check, floor_line, lost_checks, is_left}
use Rattle.line_cuts.specs.Cuts.{cut_history, cut_line, cut_choice, cut_bar, cut_marks}
use Rattle.line_cuts.specs.Cuts.{whole_choice, whole_line, whole_name, whole_entry}
use Rattle.line_cuts.proofs.ChainCuts.{chain_whole}
use Rattle.line_cuts.proofs.ConsistentCuts.{floor_at, tape_cut}
use Rattle.line_cuts.proofs.FloorStays.{floor_restarted}
use Rattle.line_cuts.proofs.LatestCuts.{latest_whole, whole_from_floor, cut_again, floor_below}
use Rattle.line_cuts.proofs.LatestCuts.{length_history, length_whole, whole_at}
use Rattle.line_cuts.proofs.StepCuts.{length_restarted, process_cut, restart_cut}
use Rattle.line_cuts.proofs.SurvivalCuts.{bar_cut, damaged_cut, undamaged}
use Rattle.line_cuts.proofs.TransitCuts.{transit_cut}
use Rattle.line_live.specs.CutMachines.{cut_listed, cut_machine, is_listed_on, whole_plan}
use Rattle.line_live.specs.CutMachines.{AnswersAlike}
use Rattle.line_live.specs.CutMachines.{IsBeside, IsItemLeft}
use Rattle.line_live.proofs.EventLives.{made}
use Rattle.line_live.proofs.ListLemmas.{any_none, map_same}
use Rattle.line_cuts.proofs.SameLists.{same_list}
use Rattle.line_live.proofs.RestartCuts.{state_same, further_same, further_cut, kept_same}
use Rattle.line_live.proofs.RestartCuts.{damage_kept, none_at, any_kept, rounds_same, all_below}

module _ (floor : Floor) (history : List Process) (marks : MarksView) (last : ℕ)
    (rounds : List ListedRound) (copies : List (List (List MsgName)))
    (is : IsBeside floor (made history marks last rounds copies)) (failed : List Bool) where
  abbrev old : Machine
  old = made history marks last rounds copies

  abbrev kept : Machine
  kept = cut_machine floor old

  abbrev cut_past : List Process
  cut_past = cut_history floor history

  unordered : IsFitUnordered history
  unordered = ordered_fit history is.fit

  module _ (plan : Plan) (planned : IsPlan kept failed plan) where
    abbrev line : List Choice
    line = whole_line floor plan.line

    again : cut_line floor line ≡ plan.line
    again = cut_again floor history marks failed unordered is.is is.stays plan.line planned.latest

    from_floor : IsNowhereLater (floor_line floor) line
    from_floor = whole_from_floor floor history marks failed unordered is.is is.stays plan.line
        planned.latest

    -- what is planned there is a plan of the whole
    pub plan_whole : IsPlan old failed (whole_plan floor plan)
    plan_whole = record {
      latest =
          latest_whole floor history marks failed unordered is.is is.stays plan.line planned.latest;
      chain = chain_whole floor history marks failed unordered is.is is.stays plan.certificate.items
          plan.line planned.chain;
      some_sweep = planned.some_sweep;
      few_sweeps =
          omega (arith, planned.few_sweeps, length-map plan.certificate.items (whole_entry floor));
      replays =
          ap (map (whole_name floor)) (planned.replays ∙ ap (in_transit cut_past) (sym again))
          ∙ sym (transit_cut floor history line from_floor unordered is.is);
    }

    count : length plan.line ≡ length history
    count = planned.latest.recoverable.length_is ∙ length_history floor history

    long : length line ≡ length history
    long = length_whole floor plan.line ∙ count

    there : (p : ℕ) → p < length history
        → choice_at line p ≡ whole_choice floor p (choice_at plan.line p)
    there p h = whole_at floor plan.line p (omega (arith, count))

    low : (p : ℕ)
        → IsNoLater (cut_choice floor p (AtCheck (floor_check floor p))) (choice_at plan.line p)
    low p =
        floor_below floor history marks failed unordered is.is is.stays plan.line planned.latest p

    -- each process that goes back has a further incarnation
    further_whole : HaveFurther cut_past plan.line → HaveFurther history line
    further_whole further p h =
        subst (HasFurther (process_at history p)) (sym (there p h))
        (further_same floor p (process_at history p) (choice_at plan.line p)
        (subst (λ (v : Process). HasFurther v (choice_at plan.line p)) (process_cut floor
        history p h) (further p (omega (arith, length_history floor history)))))

    -- the states that the processes go on from are the same
    states_whole : restored_states cut_past plan.line ≡ restored_states history line
    states_whole =
        ap (λ n. map (λ p. restored_state (tape_at cut_past p) (choice_at plan.line p))
        (range_with_len 0 n)) (length_history floor history)
        ∙ map_same (λ p. restored_state (tape_at cut_past p) (choice_at plan.line p)) (λ p.
        restored_state (tape_at history p) (choice_at line p)) 0 (length history) (λ p l h.
        let within : p < length history = omega arith in
        ap (λ (es : List Event). restored_state es (choice_at plan.line p))
        (tape_cut floor history p)
        ∙ state_same floor p (tape_at history p) (choice_at plan.line p) (low p)
        ∙ ap (restored_state (tape_at history p)) (sym (there p within)))

    abbrev new : List Process
    new = restarted_history history line

    long_new : length new ≡ length history
    long_new = length_restarted history line long

    -- what is left of the history then
    history_same : restarted_history cut_past plan.line ≡ cut_history floor new
    history_same =
        sym (restart_cut floor history line from_floor long ∙ ap (restarted_history cut_past) again)

    -- the incarnations are those of the whole
    incarnations_same : map (λ (process : Process). process.incarnation) (cut_history floor new)
        ≡ map (λ (process : Process). process.incarnation) new
    incarnations_same =
        let number : List Process
        → List ℕ = λ h. map (λ (process : Process). process.incarnation) h in
        same_list 0 (number (cut_history floor new)) (number new)
        (length-map (cut_history floor new)
        (λ (process : Process). process.incarnation) ∙ length_history floor new ∙ sym
        (length-map new (λ (process : Process). process.incarnation)))
        (λ p h.
        let within : p < length new = omega (
          arith,
          length-map (cut_history floor new)
              (λ (process : Process). process.incarnation),
          length_history floor new,
        ) in
        incarnation_of (cut_history floor new) p (omega (arith, length_history floor new))
        ∙ ap (λ (v : Process). v.incarnation) (process_cut floor new p within)
        ∙ sym (incarnation_of new p within))
      where
        incarnation_of : (h : List Process) (p : ℕ) → p < length h → get_or
            (map (λ (process : Process). process.incarnation) h) p 0 ≡ (process_at h p).incarnation
        incarnation_of [] p l = absurd (omega arith)
        incarnation_of (x ∷ xs) zero l = refl
        incarnation_of (x ∷ xs) (suc p) l = incarnation_of xs p (omega arith)

    -- the marks after the restart
    abbrev marked : MarksView
    marked = restarted_marks marks line

    damaged_long : length marked.damaged ≡ length history
    damaged_long = ap (λ (xs : List (List ℕ)). length xs) (damage-each marks.damaged line) ∙
        length-each kept_damage marks.damaged line (omega (arith, is.marked, long)) ∙ is.marked

    damaged_new : (p : ℕ) → p < length history
        → damaged_at marked p ≡ filter (is_kept (choice_at line p)) (damaged_at marks p)
    damaged_new p within =
        ap (λ (xs : List (List ℕ)). get_or xs p [])
        (damage-each marks.damaged line) ∙ each_at kept_damage marks.damaged line p [] []
        (AtCheck 0) (omega (arith, is.marked)) (omega (arith, is.marked, long))

    damaged_same : restarted_damage (cut_marks floor marks).damaged plan.line
        ≡ (cut_marks floor marked).damaged
    damaged_same =
        let cut_all : (v : MarksView)
        → length (cut_marks floor v).damaged
        ≡ length v.damaged = λ v. length-map-range_with_len
        (λ p. map (λ c. c - lost_checks floor p)
        (filter (λ c. nat_lt (floor_check floor p) c) (damaged_at v p))) 0 (length v.damaged) in
        let few : length (cut_marks floor marks).damaged ≤ length plan.line = omega
        (arith, cut_all marks, is.marked, count) in
        let size : length (restarted_damage (cut_marks floor marks).damaged plan.line)
        ≡ length history = ap (λ (xs : List (List ℕ)). length xs)
        (damage-each (cut_marks floor marks).damaged plan.line) ∙ length-each kept_damage
        (cut_marks floor marks).damaged plan.line few ∙ cut_all marks ∙ is.marked in
        same_list [] (restarted_damage (cut_marks floor marks).damaged plan.line)
        (cut_marks floor marked).damaged
        (size ∙ sym damaged_long ∙ sym (cut_all marked))
        (λ p h.
        let within : p < length history = omega (arith, size) in
        ap (λ (xs : List (List ℕ)). get_or xs p [])
        (damage-each (cut_marks floor marks).damaged plan.line)
        ∙ each_at kept_damage (cut_marks floor marks).damaged plan.line p [] [] (AtCheck 0)
        (omega (arith, within, cut_all marks, is.marked)) few
        ∙ ap (filter (is_kept (choice_at plan.line p))) (damaged_cut floor history marks p)
        ∙ damage_kept floor p (choice_at plan.line p) (damaged_at marks p) (low p)
        ∙ ap (λ (c : Choice). map (λ d. d - lost_checks floor p) (filter (λ d. nat_lt (floor_check
        floor p) d) (filter (is_kept c) (damaged_at marks p)))) (sym (there p within))
        ∙ sym (ap (λ xs. map (λ d. d - lost_checks floor p)
        (filter (λ d. nat_lt (floor_check floor p) d) xs)) (damaged_new p within))
        ∙ sym (damaged_cut floor history marked p))

    bars_same : replicate (length (cut_marks floor marks).bars) None ≡ (cut_marks floor marked).bars
    bars_same =
        let cut_all : (v : MarksView)
        → length (cut_marks floor v).bars ≡ length v.bars = λ v. length-map-range_with_len
        (λ p. cut_bar (lost_checks floor p) (bar_at v p)) 0 (length v.bars) in
        same_list None (replicate (length (cut_marks floor marks).bars) None)
        (cut_marks floor marked).bars
        (length-replicate (length (cut_marks floor marks).bars) None ∙ cut_all marks ∙ sym
        (length-replicate (length marks.bars) None) ∙ sym (cut_all marked))
        (λ p h. none_at (length (cut_marks floor marks).bars) p ∙ sym (ap (cut_bar (lost_checks
        floor p)) (none_at (length marks.bars) p)) ∙ sym (bar_cut floor history marked p))

    marks_same : restarted_marks (cut_marks floor marks) plan.line ≡ cut_marks floor marked
    marks_same =
        let make : List (List ℕ) → List (Option ℕ)
        → MarksView = λ damaged bars. record { damaged = damaged; bars = bars } in
        ap (λ (v : List (List ℕ)). make v (replicate (length (cut_marks floor marks).bars) None))
        damaged_same ∙ ap (make (cut_marks floor marked).damaged) bars_same

    -- a listed round stays there where it stays in the whole
    stays_same : (round : ListedRound) → is_listed_on floor round ≡ true
        → stays plan.line (cut_listed floor round) ≡ stays line round
    stays_same round on =
        ap (λ n. list_all (λ p. is_kept (choice_at plan.line p)
        (check_in (cut_listed floor round) p)) (range_with_len 0 n)) (count ∙ sym long)
        ∙ all_below (λ p. is_kept (choice_at plan.line p) (check_in (cut_listed floor round) p))
        (λ p. is_kept (choice_at line p) (check_in round p)) 0 (length line) (λ p l h.
        let within : p < length history = omega (arith, long) in
        let size : length floor.checks ≡ length history = sym
        (length-map floor.checks (λ c. AtCheck c)) ∙ is.is.line.length_is in
        let above : floor_check floor p ≤ check_in round p = leb-true (floor_check floor p)
        (check_in round p) (in_range (λ q. nat_le (floor_check floor q) (check_in round q)) 0
        (length floor.checks) p on (omega arith) (omega (arith, within, size))) in
        ap (is_kept (choice_at plan.line p)) (check_cut round p)
        ∙ kept_same floor p (check_in round p) (choice_at plan.line p) (low p) above
        ∙ ap (λ (c : Choice). is_kept c (check_in round p)) (sym (there p within)))
      where
        check_cut : (round : ListedRound) (p : ℕ)
            → check_in (cut_listed floor round) p ≡ check_in round p - lost_checks floor p
        check_cut round p = elim (cases_lt p (length round.checks)) [
          | inl within ↦ get_or-map-range_with_len (λ q. check_in round q - lost_checks floor q) 0
              (length round.checks) p p 0 within (omega arith)
          | inr past ↦
              let none : 0 ≡ check_in round p - lost_checks floor p = omega
              (arith, get_or_past round.checks p 0 past) in
              get_or_past (cut_listed floor round).checks p 0
              (omega (
                arith,
                past,
                length-map-range_with_len
                    (λ q. check_in round q - lost_checks floor q) 0 (length round.checks),
              )) ∙ none
        ]

    -- the floor survives the restart
    stays_new : (p : ℕ) → p < length new
        → IsTrue (survives new marked [] p (AtCheck (floor_check floor p)))
    stays_new p h = at (floor_check floor p) refl (is.stays p (omega (arith, long_new)))
      where
        there_still : floor_check floor p ≤ checks (tape_at new p)
        there_still = subst (HasChoice (tape_at new p)) (floor_at floor p)
            ((floor_restarted history floor is.is line long from_floor).line.exist p)

        at : (c : ℕ) → c ≡ floor_check floor p → IsTrue (survives history marks [] p (AtCheck c))
            → IsTrue (survives new marked [] p (AtCheck c))
        at zero e s = refl
        at (suc c) e s =
            let none : is_damaged marks p (suc c)
            ≡ false = undamaged (leb (suc c) (checks (tape_at history p)))
            (is_damaged marks p (suc c)) (is_allowed (bar_at marks p) (AtCheck (suc c))) s in
            let clear : is_damaged marked p (suc c)
            ≡ false = ap (λ xs. list_any (λ d. d == suc c) xs)
            (damaged_new p (omega (arith, h, long_new))) ∙ any_kept (suc c)
            (is_kept (choice_at line p)) (damaged_at marks p) none in
            ap (λ b. b && not (is_damaged marked p (suc c)) && is_allowed (bar_at marked p) (AtCheck
            (suc c))) (le-leb (suc c) (checks (tape_at new p)) (omega (arith, e, there_still)))
            ∙ ap (λ b. not b && is_allowed (bar_at marked p) (AtCheck (suc c))) clear
            ∙ ap (λ (o : Option ℕ). is_allowed o (AtCheck (suc c))) (none_at (length marks.bars) p)

    -- what links hold then is left
    links_new : (p q : ℕ) → All (IsItemLeft floor) (link new p q)
    links_new p q =
        let consistent = plan_whole.latest.recoverable.consistent in
        let names : in_transit_between history line p q ≡ filter (goes_between history p q)
        (map (whole_name floor) (in_transit cut_past (cut_line floor line))) =
        sym (parts history line history (open_are history line) p q) ∙ ap (filter (goes_between
        history p q)) (transit_cut floor history line from_floor unordered is.is) in
        subst (All (IsItemLeft floor)) (sym (restart_link history line is.fit consistent long p q ∙
        ap (map (λ (m : MsgName). Message m)) names))
        (All-map (IsItemLeft floor) (λ (m : MsgName). Message m) (filter (goes_between history p q)
        (map (whole_name floor) (in_transit cut_past (cut_line floor line))))
        (All-filter (goes_between history p q) (λ m. is_left floor m ≡ true)
        (map (whole_name floor) (in_transit cut_past (cut_line floor line)))
        (all_whole (in_transit cut_past (cut_line floor line)))))
      where
        all_whole : (ms : List MsgName)
            → All (λ m. is_left floor m ≡ true) (map (whole_name floor) ms)
        all_whole [] = All-nil (λ m. is_left floor m ≡ true)
        all_whole (m ∷ ms) = All-cons (λ m. is_left floor m ≡ true) (whole_name floor m)
            (map (whole_name floor) ms) (le-leb (lost_sends floor m.from)
            (m.number + lost_sends floor m.from) (omega arith)) (all_whole ms)

    none_begun : (r : ℕ) → is_begun new r ≡ false
    none_begun r = any_none (λ p. has_check_of r (tape_at new p)) (range_with_len 0 (length new))
        (λ p. no_check_restarted history line r p long)

    beside_new : (rounds' : List ListedRound) (copies' : List (List (List MsgName)))
        → IsBeside floor (made new marked last rounds' copies')
    beside_new rounds' copies' = record {
      mode = refl;
      fit = restart_fit history line is.fit plan_whole.latest.recoverable.consistent long;
      marked = damaged_long ∙ sym long_new;
      is = floor_restarted history floor is.is line long from_floor;
      stays = stays_new;
      old = λ p. old_front p;
      round = is.round;
      greatest =
          λ p r has. absurd (false≢true (sym (no_check_restarted history line r p long) ∙ has));
      links = λ p q lp lq other. links_new p q;
      others = λ r other begun. absurd (false≢true (sym (none_begun r) ∙ begun));
      closed = λ r lower begun. absurd (false≢true (sym (none_begun r) ∙ begun));
    }
      where
        no_rounds_in : (es : List Event) (n : ℕ) → rounds_checked es ≡ []
            → rounds_checked (take n es) ≡ []
        no_rounds_in es zero e = refl
        no_rounds_in [] (suc n) e = refl
        no_rounds_in (Send to inc body ∷ es) (suc n) e = no_rounds_in es n e
        no_rounds_in (Recv m ∷ es) (suc n) e = no_rounds_in es n e
        no_rounds_in (Check state None ∷ es) (suc n) e = no_rounds_in es n e
        no_rounds_in (Check state (Some r) ∷ es) (suc n) e = absurd (cc)
        no_rounds_in (Mark from r ∷ es) (suc n) e = no_rounds_in es n e

        old_front : (p : ℕ) → All (λ round. round ≤ floor.round)
            (rounds_checked (events_before new (floor_line floor) p))
        old_front p = subst (All (λ round. round ≤ floor.round))
            (sym (no_rounds_in (tape_at new p) (place (tape_at new p) (choice_at (floor_line floor)
            p)) (no_rounds_restarted history line p long))) (All-nil (λ round. round ≤ floor.round))

    same_new : restarted_machine kept plan.line ≡ cut_machine floor (restarted_machine old line)
    same_new =
        let listed : List ListedRound = filter (stays plan.line)
        (map (cut_listed floor) (filter (is_listed_on floor) rounds)) in
        ap (λ (v : List Process). made v
        (restarted_marks (cut_marks floor marks) plan.line) last listed []) history_same
        ∙ ap (λ (v : MarksView). made (cut_history floor new) v last listed []) marks_same
        ∙ ap (λ (v : List ListedRound). made (cut_history floor new) (cut_marks floor marked) last v
        []) (rounds_same floor (stays plan.line) (stays line) rounds stays_same)

  -- a recovery that is done
  recovered : (reply : Reply) (cut : Machine) → refusal_of old (Recover failed) ≡ None →
      RecoversWith kept failed reply cut → AnswersAlike floor old (Recover failed) (Done reply) cut
  recovered (Recovered plan states incarnations) cut none does =
      let p : Plan = plan.value in
      record {
        new = restarted_machine old (whole_line floor p.line);
        takes = (
          inl none,
          record {
            plan_is = plan_whole p does.plan_is;
            further = further_whole p does.plan_is does.further;
            states_are = does.states_are ∙ states_whole p does.plan_is;
            incarnations_are =
                does.incarnations_are
                ∙ ap (λ (m : Machine). map (λ (process : Process). process.incarnation) m.history)
                (does.new_is ∙ same_new p does.plan_is)
                ∙ incarnations_same p does.plan_is;
            new_is = refl;
          },
        );
        beside = beside_new p does.plan_is (filter (stays (whole_line floor p.line)) rounds) [];
        same = does.new_is ∙ same_new p does.plan_is;
      }
  recovered (Sent message) cut none does = absurd does
  recovered (Took message forced) cut none does = absurd does
  recovered (Marked round forced) cut none does = absurd does
  recovered (Stale message) cut none does = absurd does
  recovered (Repeated message) cut none does = absurd does
  recovered (Checked at check) cut none does = absurd does
  recovered (Begun at check round) cut none does = absurd does
  recovered (Turned at check round) cut none does = absurd does
  recovered (Damaged at check) cut none does = absurd does
  recovered (Barred at check) cut none does = absurd does

  causes_same : refusal_of kept (Recover failed) ≡ refusal_of old (Recover failed)
  causes_same = ap (λ n. first_cause ((list_any (λ member. member) (drop n failed), NoSuchProcess)
      ∷ [])) (length_history floor history)

  -- one whose line takes a process back that has no further incarnation
  spent : IsSpent kept failed → IsSpent old failed
  spent s = record {
    line = whole_line floor s.line;
    latest = latest_whole floor history marks failed unordered is.is is.stays s.line s.latest;
    spent = λ further. s.spent (λ p h.
        let within : p < length history = omega (arith, length_history floor history) in
        let size : length s.line
        ≡ length history = s.latest.recoverable.length_is ∙ length_history floor history in
        subst (λ (v : Process). HasFurther v (choice_at s.line p))
        (sym (process_cut floor history p within))
        (further_cut floor p (process_at history p) (choice_at s.line p)
        (subst (HasFurther (process_at history p))
        (whole_at floor s.line p (omega (arith, within, size))) (further p within))));
  }

  late_same : (e : StepError) → IsLateCause kept (Recover failed) e
      → IsLateCause old (Recover failed) e
  late_same OutOfMemory l = l
  late_same NoSuchProcess l = l
  late_same TapeFull l = l
  late_same NoSuchCheck l = l
  late_same StateTooLong l = l
  late_same InitialDamage l = l
  late_same AlreadyDamaged l = l
  late_same ToSelf l = l
  late_same LinkEmpty l = l
  late_same BadPick l = l
  late_same RoundOpen l = l
  late_same NothingToTurn l = l
  late_same WrongMode l = l
  late_same NoMoreRounds l = l
  late_same NoMoreIncarnations l = spent l
  late_same BarNotLower l = l

  refused_same : (e : StepError) (cause : Option StepError)
      → IsRefused kept (Recover failed) e cause → IsRefused old (Recover failed) e cause
  refused_same e None r = late_same e r
  refused_same e (Some c) r = r

  pub recover_alike : (answer : Answer) (cut : Machine) → Takes kept (Recover failed) answer cut
      → AnswersAlike floor old (Recover failed) answer cut
  recover_alike (Done reply) cut (none, does) = recovered reply cut (sym causes_same ∙ none) does
  recover_alike (Refused e) cut (refused, same) = record {
    new = old;
    takes = (
      refused_same e (refusal_of old (Recover failed))
          (subst (IsRefused kept (Recover failed) e) causes_same refused),
      refl,
    );
    beside = is;
    same = same;
  }
