-- What is kept of a collection, beside the one that keeps everything: what is planned, what all go
-- on
-- from, and what is let go.
use Rattle.std.proofs.Common.{◌≡◌, ℕ, ◌+◌, ◌<◌, ◌≤◌, Bool, List, [], length, map, Option, None}
use Rattle.std.proofs.Common.{refl, sym, ap, ◌∙◌, subst, arith}
use Rattle.std.specs.Prelude.{IsTrue}
use Rattle.std.specs.List.{range_with_len}
use Rattle.std.proofs.lemmas.List.{length-map, length-replicate}
use Rattle.std.proofs.lemmas.List.Elements.{All-nil}
use Rattle.std.proofs.lemmas.List.FromFn.{length-map-range_with_len}
use Rattle.line_catalogue.proofs.RestartLemmas.{Agrees-restarted}
use Rattle.line_text.specs.Replies.{process_record}
use Rattle.line_fields.specs.Records.{Record}
use Rattle.line_collect.specs.Alongside.{IsLeftOfAll}
use Rattle.line_collect.specs.Answers.{going_on_record, plan_records, plan_records_with}
use Rattle.line_collect.specs.LiveAnswers.{live_going_on_record, live_plan_records}
use Rattle.line_collect.specs.Collections.{CollectionView, IsPlanOf, IsPlanToGoBack, gone_back}
use Rattle.line_collect.specs.Lives.{ForgetsReports, IsFloorOfLive, IsLivePlan, LiveCollectionView}
use Rattle.line_collect.specs.Lives.{keeping}
use Rattle.line_cuts.proofs.AgreedChains.{chain_whole}
use Rattle.line_cuts.proofs.AgreedFloors.{floor_both, later_stays}
use Rattle.line_cuts.proofs.AgreedLatest.{cut_again, floor_below, latest_whole, whole_from_floor}
use Rattle.line_cuts.proofs.AgreedTransit.{transit_cut}
use Rattle.line_collect.proofs.MarksAlike.{marks_cut, marks_through, restart_same}
use Rattle.line_collect.proofs.RestartLeft.{damaged_long, marks_same, stays_new}
use Rattle.line_cuts.proofs.AgreementCuts.{incarnation_cut}
use Rattle.line_cuts.proofs.ConsistentCuts.{tape_cut}
use Rattle.line_moves.specs.Restarts.{restored_state}
use Rattle.line_cuts.specs.Cuts.{Floor, FloorSurvives, IsFloor, cut_choice, cut_history, cut_line}
use Rattle.line_cuts.specs.Cuts.{cut_marks, floor_check, floor_line, lost_sends, whole_choice}
use Rattle.line_cuts.specs.Cuts.{whole_entry, whole_floor, whole_line, whole_name}
use Rattle.line_cuts.proofs.FloorStays.{floor_restarted}
use Rattle.line_cuts.proofs.LaterFloors.{survives_both}
use Rattle.line_cuts.proofs.LatestCuts.{length_history, length_whole, whole_at}
use Rattle.line_cuts.proofs.StepCuts.{length_restarted, process_cut, restart_cut}
use Rattle.line_cuts.proofs.TwoCuts.{history_both}
use Rattle.line_cuts.specs.Floors.{IsOfChecks, settled_sends}
use Rattle.line_cuts.specs.Marks.{AreSameMarks}
use Rattle.line_cuts.proofs.FloorLemmas.{line_of_checks}
use Rattle.line_live.proofs.LiveFloors.{all_checks}
use Rattle.line_cuts.proofs.SameLemmas.{chain_same, latest_line_same, survives_same}
use Rattle.line_live.specs.CutMachines.{whole_plan}
use Rattle.line_live.proofs.ListLemmas.{map_same}
use Rattle.line_live.proofs.RestartCuts.{further_same, state_same}
use Rattle.line_live.proofs.TwoForgets.{machine_both}
use Rattle.line_moves.specs.Listed.{ListedRound}
use Rattle.line_names.specs.declared.choices.Choice.{Choice}
use Rattle.line_names.specs.declared.choices.Choice.TheVariants.{Check as AtCheck, Now}
use Rattle.line_names.specs.Lines.{choice_at, IsNowhereLater}
use Rattle.line_names.specs.Order.{IsNoLater}
use Rattle.line_plan.specs.declared.plans.Plan.{Plan}
use Rattle.line_tape.specs.declared.modes.Mode.TheVariants.{Fifo}
use Rattle.line_tape.specs.Chain.{IsChain}
use Rattle.line_tape.specs.declared.events.Event.{Event}
use Rattle.line_tape.specs.History.{Process, incarnation_at, process_at, tape_at}
use Rattle.line_tape.specs.Restart.{HasFurther, HaveFurther, restarted_history}
use Rattle.line_tape.specs.Restart.{restarted_incarnation, restarted_marks}
use Rattle.line_tape.specs.Survival.{IsLatest, survives}
use Rattle.line_tape.specs.Transit.{in_transit}
use Rattle.line_tape.specs.Views.{MarksView}
use Rattle.line_moves.proofs.LineFacts.{IsLine-latest}
use Rattle.line_world.specs.Machine.{Machine}

-- who goes back has a further incarnation, whatever the number of the check
restarted_same : (floor : Floor) (p : ℕ) (choice : Choice) (inc : ℕ)
    → restarted_incarnation choice inc ≡ restarted_incarnation (whole_choice floor p choice) inc
restarted_same floor p (AtCheck c) inc = refl
restarted_same floor p Now inc = refl

module _ (live : LiveCollectionView) (whole : CollectionView) (left : IsLeftOfAll live whole) where
  abbrev floor : Floor
  floor = live.floor

  abbrev cut_past : List Process
  cut_past = cut_history live.floor whole.history

  abbrev cut_marked : MarksView
  cut_marked = cut_marks live.floor whole.marks

  -- the latest line of what is kept is that of what is left
  latest_there : (failed : List Bool) (line : List Choice) → IsLatest live.kept.history
      live.kept.marks failed line → IsLatest cut_past cut_marked failed line
  latest_there failed line latest =
      latest_line_same cut_past live.kept.marks cut_marked failed line left.marks
      (subst (λ (h : List Process). IsLatest h live.kept.marks failed line) left.history latest)

  module _ (failed : List Bool) (plan : Plan) (is : IsPlanToGoBack live.kept failed plan) where
    latest : IsLatest cut_past cut_marked failed plan.line
    latest = latest_there failed plan.line is.plan_is.latest

    abbrev line : List Choice
    line = whole_line live.floor plan.line

    again : cut_line floor line ≡ plan.line
    again = cut_again floor whole.history whole.marks failed left.agrees left.is left.stays
        plan.line latest

    from_floor : IsNowhereLater (floor_line floor) line
    from_floor = whole_from_floor floor whole.history whole.marks failed left.agrees left.is
        left.stays plan.line latest

    chain_there : IsChain cut_past cut_marked failed plan.certificate.items plan.line
    chain_there =
        chain_same cut_past live.kept.marks cut_marked failed left.marks plan.certificate.items
        plan.line
        (subst (λ (h : List Process). IsChain h live.kept.marks failed plan.certificate.items
        plan.line) left.history is.plan_is.chain)

    -- what is planned there is a plan of the whole
    plan_of_all : IsPlanOf whole failed (whole_plan floor plan)
    plan_of_all = record {
      latest = latest_whole floor whole.history whole.marks failed left.agrees left.is left.stays
          plan.line latest;
      chain = chain_whole floor whole.history whole.marks failed left.agrees left.is left.stays
          plan.certificate.items plan.line chain_there;
      some_sweep = is.plan_is.some_sweep;
      few_sweeps = omega
          (arith, is.plan_is.few_sweeps, length-map plan.certificate.items (whole_entry floor));
      replays =
          ap (map (whole_name floor)) (is.plan_is.replays ∙ ap (λ (h : List Process). in_transit h
          plan.line) left.history ∙ ap (in_transit cut_past) (sym again))
          ∙ sym (transit_cut floor whole.history line from_floor left.is);
    }

    count : length plan.line ≡ length whole.history
    count = latest.recoverable.length_is ∙ length_history floor whole.history

    long : length line ≡ length whole.history
    long = length_whole floor plan.line ∙ count

    there : (p : ℕ) → p < length whole.history
        → choice_at line p ≡ whole_choice floor p (choice_at plan.line p)
    there p h = whole_at floor plan.line p (omega (arith, count))

    low : (p : ℕ)
        → IsNoLater (cut_choice floor p (AtCheck (floor_check floor p))) (choice_at plan.line p)
    low p = floor_below floor whole.history whole.marks failed left.agrees left.is left.stays
        plan.line latest p

    -- each process that goes back has a further incarnation
    further_there : HaveFurther cut_past plan.line
    further_there = subst (λ (h : List Process). HaveFurther h plan.line) left.history is.further

    further_whole : HaveFurther whole.history line
    further_whole p h =
        subst (HasFurther (process_at whole.history p)) (sym (there p h))
        (further_same floor p (process_at whole.history p) (choice_at plan.line p)
        (subst (λ (v : Process). HasFurther v (choice_at plan.line p))
        (process_cut floor whole.history p h)
        (further_there p (omega (arith, h, length_history floor whole.history)))))

    pub plan_to_go_back : IsPlanToGoBack whole failed (whole_plan floor plan)
    plan_to_go_back = record { plan_is = plan_of_all; further = further_whole }

    -- where each process goes on is told as by the whole
    going_on_same : (p : ℕ) → p < length whole.history
        → live_going_on_record live plan.line p ≡ going_on_record whole.history line p
    going_on_same p h =
        let choice : Choice = choice_at plan.line p in
        let inc : restarted_incarnation choice (incarnation_at live.kept.history p)
        ≡ restarted_incarnation (whole_choice floor p choice) (incarnation_at whole.history p) =
        ap (restarted_incarnation choice) (ap (λ (h : List Process). incarnation_at h p)
        left.history ∙ incarnation_cut floor whole.history p)
        ∙ restarted_same floor p choice (incarnation_at whole.history p) in
        let state : restored_state (tape_at live.kept.history p) choice
        ≡ restored_state (tape_at whole.history p) (whole_choice floor p choice) =
        ap (λ (h : List Process). restored_state (tape_at h p) choice) left.history
        ∙ ap (λ (es : List Event). restored_state es choice) (tape_cut floor whole.history p)
        ∙ state_same floor p (tape_at whole.history p) choice (low p) in
        ap (λ (i : ℕ). process_record p (whole_choice floor p choice) i
        (restored_state (tape_at live.kept.history p) choice)) inc
        ∙ ap (λ (s : Option (List ℕ)). process_record p (whole_choice floor p choice)
        (restarted_incarnation (whole_choice floor p choice) (incarnation_at whole.history p))
        s) state
        ∙ ap (λ (w : Choice). process_record p w (restarted_incarnation w (incarnation_at
        whole.history p)) (restored_state (tape_at whole.history p) w)) (sym (there p h))

    pub told_same : (word : List ℕ)
        → live_plan_records word live plan ≡ plan_records word whole.history (whole_plan floor plan)
    told_same word =
        ap (λ (lines : List Record). plan_records_with word lines (whole_plan floor plan))
        (ap (λ (n : ℕ). map (live_going_on_record live plan.line) (range_with_len 0 n))
        (ap (λ (h : List Process). length h) left.history ∙ length_history floor whole.history)
        ∙ map_same (live_going_on_record live plan.line) (going_on_record whole.history line) 0
        (length whole.history) (λ p l h. going_on_same p (omega arith)))

    abbrev new : List Process
    new = restarted_history whole.history line

    long_new : length new ≡ length whole.history
    long_new = length_restarted whole.history line long

    -- what is kept goes on as what is left of the whole
    pub recovered_left : IsLeftOfAll (keeping live (gone_back live.kept plan.line))
        (gone_back whole line)
    recovered_left = record {
      agrees = Agrees-restarted whole.history line (IsLine-latest whole.history whole.marks failed
          line plan_of_all.latest) plan_of_all.latest.recoverable.consistent;
      marked = damaged_long floor whole.history whole.marks left.is left.stays left.marked plan.line
          count low from_floor ∙ sym long_new;
      barred = length-replicate (length whole.marks.bars) None ∙ left.barred ∙ sym long_new;
      sends = left.sends ∙ sym long_new;
      round = left.round;
      is = floor_restarted whole.history floor left.is line long from_floor;
      stays = stays_new floor whole.history whole.marks left.is left.stays left.marked plan.line
          count low from_floor;
      history =
          ap (λ (h : List Process). restarted_history h plan.line) left.history
          ∙ ap (restarted_history cut_past) (sym again)
          ∙ sym (restart_cut floor whole.history line from_floor long);
      marks = subst (AreSameMarks (restarted_marks live.kept.marks plan.line))
          (marks_same floor whole.history whole.marks left.is left.stays left.marked plan.line count
          low from_floor) (restart_same live.kept.marks cut_marked plan.line left.marks);
    }

  module _ (new : LiveCollectionView) (forgets : ForgetsReports live new) where
    abbrev later : Floor
    later = forgets.later

    abbrev both : Floor
    both = whole_floor live.floor forgets.later

    at : IsFloorOfLive live.kept forgets.later
    at = forgets.at

    of_checks : IsOfChecks at.line
    of_checks = all_checks live.kept.history live.kept.marks at.failed at.line
        (λ p within. (at.all p).1 within) at.latest

    line_is : floor_line later ≡ at.line
    line_is = ap (λ (f : Floor). floor_line f) at.value ∙ line_of_checks at.line of_checks

    latest_cut : IsLatest cut_past cut_marked at.failed (floor_line later)
    latest_cut = subst (IsLatest cut_past cut_marked at.failed) (sym line_is)
        (latest_there at.failed at.line at.latest)

    -- who has left its initial state does not come back to it
    some : (p : ℕ) → p < length whole.history → 1 ≤ floor_check floor p → 1 ≤ floor_check later p
    some = later_stays floor later whole.history whole.marks at.failed left.agrees left.is
        left.stays latest_cut

    next : IsFloor cut_past later
    next = subst (λ (h : List Process). IsFloor h later) left.history at.is

    same_count : length live.kept.history ≡ length whole.history
    same_count =
        ap (λ (h : List Process). length h) left.history ∙ length_history floor whole.history

    live_there : FloorSurvives cut_past cut_marked later
    live_there p h =
        subst IsTrue
        (ap (λ (past : List Process). survives past live.kept.marks [] p
        (AtCheck (floor_check later p))) left.history
        ∙ survives_same cut_past live.kept.marks cut_marked [] left.marks p
        (AtCheck (floor_check later p)))
        (at.stays p (omega (arith, h, same_count, length_history floor whole.history)))

    checks_count : length later.checks ≡ length whole.history
    checks_count =
        sym (length-map later.checks (λ c. AtCheck c)) ∙ next.line.length_is ∙ length_history floor
        whole.history

    sends_count : length later.sends ≡ length whole.history
    sends_count = ap (λ (f : Floor). length f.sends) at.value ∙ length-map-range_with_len
        (settled_sends live.kept.history at.line) 0 (length live.kept.history) ∙ same_count

    first_count : length floor.checks ≡ length whole.history
    first_count = sym (length-map floor.checks (λ c. AtCheck c)) ∙ left.is.line.length_is

    alike : length floor.sends ≡ length later.sends
    alike = left.sends ∙ sym sends_count

    round_is : later.round ≡ 0
    round_is = ap (λ (f : Floor). f.round) at.value

    rising : floor.round ≤ later.round
    rising = omega (arith, left.round)

    abbrev machine : Machine
    machine = record {
      mode = Fifo;
      history = whole.history;
      marks = whole.marks;
      last_round = 0;
      rounds = [];
      copies = [];
    }

    marks_both : cut_marks later cut_marked ≡ cut_marks both whole.marks
    marks_both = ap (λ (m : Machine). m.marks) (machine_both floor later machine (record {
      first = first_count;
      checks = checks_count;
      sends = alike;
      some = some;
      rising = rising;
      marked = left.marked;
      barred = left.barred;
      listed = All-nil (λ (round : ListedRound). length round.checks ≡ length whole.history);
    }))

    at_both : IsLeftOfAll (record { floor = both; kept = new.kept }) whole
    at_both = record {
      agrees = left.agrees;
      marked = left.marked;
      barred = left.barred;
      sends = length-map-range_with_len (λ p. lost_sends floor p + lost_sends later p) 0
          (length later.sends) ∙ sends_count;
      round = round_is;
      is = floor_both floor later whole.history left.is next some left.agrees;
      stays = survives_both floor later whole.history left.is next some whole.marks left.stays
          live_there;
      history =
          forgets.history
          ∙ ap (cut_history later) left.history
          ∙ history_both floor later whole.history checks_count alike some rising;
      marks =
          subst (AreSameMarks new.kept.marks) marks_both
          (marks_through new.kept.marks (cut_marks later live.kept.marks) (cut_marks later
          cut_marked) forgets.marks (marks_cut later live.kept.marks cut_marked left.marks));
    }

    -- what is kept then is what is left of the whole
    pub forgotten_left : IsLeftOfAll new whole
    forgotten_left = subst (λ (f : Floor). IsLeftOfAll
        (record { floor = f; kept = new.kept }) whole) (sym forgets.floor_is) at_both

-- a plan of what is kept, brought back
pub live_plan_is : (live : LiveCollectionView) (whole : CollectionView) (failed : List Bool) (plan :
    Plan) → IsLeftOfAll live whole → IsLivePlan live failed plan → IsPlanToGoBack whole failed plan
live_plan_is live whole failed plan left is = subst (IsPlanToGoBack whole failed)
    (sym is.brought_back) (plan_to_go_back live whole left failed is.kept is.plan_is)
