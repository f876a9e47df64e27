-- The latest line of what is left is the latest line of the whole, of a history that agrees.
use Rattle.std.proofs.Common.{◌≡◌, ℕ, zero, suc, ◌<◌, ◌≤◌, max, Bool, List, [], length, refl, sym}
use Rattle.std.proofs.Common.{ap, ◌∙◌, subst, arith, inl, inr}
use Rattle.std.specs.Prelude.{IsTrue}
use Rattle.std.specs.List.{Contains}
use Rattle.std.proofs.lemmas.Bool.{cases_lt}
use Rattle.std.proofs.lemmas.List.FromFn.{length-map-range_with_len, get_or-map-range_with_len}
use Rattle.line_names.specs.declared.choices.Choice.{Choice}
use Rattle.line_names.specs.declared.choices.Choice.TheVariants.{Check as AtCheck}
use Rattle.line_names.specs.Lines.{choice_at, IsNowhereLater}
use Rattle.line_names.specs.Order.{IsNoLater}
use Rattle.line_tape.specs.declared.events.Event.TheVariants.{Recv}
use Rattle.line_tape.specs.Event.{checks}
use Rattle.line_tape.specs.Front.{front, HasChoice}
use Rattle.line_tape.specs.History.{Process, tape_at}
use Rattle.line_tape.specs.Line.{IsConsistent}
use Rattle.line_tape.specs.Survival.{survives, IsRecoverable, IsLatest}
use Rattle.line_tape.specs.Views.{MarksView}
use Rattle.line_tape.proofs.ChoiceLemmas.{choice-past, IsNoLater-refl, IsNoLater-trans}
use Rattle.line_cuts.specs.Cuts.{Floor, IsFloor, FloorSurvives, floor_check, floor_line}
use Rattle.line_cuts.specs.Cuts.{cut_history, cut_choice, whole_choice, cut_line, whole_line}
use Rattle.line_cuts.specs.Cuts.{cut_marks}
use Rattle.line_laws.proofs.ChainLemmas.{sent_later}
use Rattle.line_cuts.proofs.SurvivalCuts.{survives_cut}
use Rattle.line_catalogue.specs.Agreement.{Agrees}
use Rattle.line_cuts.proofs.ConsistentCuts.{choice_cut, floor_at, consistent_left}
use Rattle.line_cuts.proofs.LatestCuts.{length_cut, length_history, length_whole, raised}
use Rattle.line_cuts.proofs.LatestCuts.{raised_above, raised_cases, raised_later, raised_line}
use Rattle.line_cuts.proofs.LatestCuts.{same_line, sent_back, whole_above, whole_at, whole_order}
use Rattle.line_cuts.proofs.AgreedCuts.{consistent_whole}

module _ (floor : Floor) (history : List Process) (marks : MarksView) (failed : List Bool) (agrees :
    Agrees history) (is : IsFloor history floor) (stays : FloorSurvives history marks floor) where
  -- past the processes the floor is at their initial states
  floor_past : (p : ℕ) → length history ≤ p → floor_check floor p ≡ 0
  floor_past p past =
      let none : AtCheck (floor_check floor p) ≡ AtCheck 0 = sym (floor_at floor p) ∙ choice-past
      (floor_line floor) p (omega (arith, is.line.length_is)) in
      cc none

  pub floor_exists : (p : ℕ) → floor_check floor p ≤ checks (tape_at history p)
  floor_exists p = subst (HasChoice (tape_at history p)) (floor_at floor p) (is.line.exist p)

  -- the floor survives, whoever failed
  check_either : (p c : ℕ)
      → survives history marks [] p (AtCheck c) ≡ survives history marks failed p (AtCheck c)
  check_either p zero = refl
  check_either p (suc c) = refl

  pub floor_survives : (p : ℕ)
      → IsTrue (survives history marks failed p (AtCheck (floor_check floor p)))
  floor_survives p = elim (cases_lt p (length history)) [
    | inl within ↦ sym (check_either p (floor_check floor p)) ∙ stays p within
    | inr past ↦ ap (λ c. survives history marks failed p (AtCheck c)) (floor_past p past)
  ]

  pub survives_same : (p : ℕ) (c : Choice) → IsNoLater (AtCheck (floor_check floor p)) c
      → survives (cut_history floor history) (cut_marks floor marks) failed p (cut_choice floor p c)
      ≡ survives history marks failed p c
  survives_same p c above =
      survives_cut floor history marks p failed (floor_exists p) (floor_survives p) c above

  -- a recoverable line from the floor on is one of what is left
  pub recoverable_cut : (line : List Choice) → IsNowhereLater (floor_line floor) line
      → IsRecoverable history marks failed line → IsRecoverable (cut_history floor history)
      (cut_marks floor marks) failed (cut_line floor line)
  recoverable_cut line above r = record {
    length_is = length_cut floor line ∙ r.length_is ∙ sym (length_history floor history);
    surviving = λ p. ap (survives (cut_history floor history) (cut_marks floor marks) failed p)
        (choice_cut floor line p) ∙ survives_same p (choice_at line p) (subst (λ
        (c : Choice). IsNoLater c (choice_at line p)) (floor_at floor p) (above p)) ∙ r.surviving p;
    consistent = consistent_left floor history line above r.consistent;
  }

  pub floor_recoverable : IsRecoverable history marks failed (floor_line floor)
  floor_recoverable = record {
    length_is = is.line.length_is;
    surviving = λ p. ap (survives history marks failed p) (floor_at floor p) ∙ floor_survives p;
    consistent = is.consistent;
  }

  -- so a latest line of what is left is nowhere before the floor
  pub floor_below : (line : List Choice)
      → IsLatest (cut_history floor history) (cut_marks floor marks) failed line → (p : ℕ)
      → IsNoLater (cut_choice floor p (AtCheck (floor_check floor p))) (choice_at line p)
  floor_below line latest p =
      subst (λ (c : Choice). IsNoLater c (choice_at line p))
      (choice_cut floor (floor_line floor) p ∙ ap (cut_choice floor p) (floor_at floor p))
      (latest.latest (cut_line floor (floor_line floor)) (recoverable_cut (floor_line floor)
      (λ q. IsNoLater-refl (choice_at (floor_line floor) q)) floor_recoverable) p)

  -- a line raised to the floor
  raised_at : (line : List Choice) → length line ≡ length history → (p : ℕ)
      → choice_at (raised_line floor line) p ≡ raised floor p (choice_at line p)
  raised_at line e p = elim (cases_lt p (length line)) [
    | inl within ↦ get_or-map-range_with_len (λ q. raised floor q (choice_at line q)) 0
        (length line) p p (AtCheck 0) within (omega arith)
    | inr past ↦
        let none : length (raised_line floor line) ≤ p = omega (
          arith,
          length-map-range_with_len
              (λ q. raised floor q (choice_at line q)) 0 (length line),
        ) in
        let low : 0 ≡ max 0 (floor_check floor p) = omega (arith, floor_past p (omega arith)) in
        choice-past (raised_line floor line) p none ∙ ap AtCheck low ∙ ap (raised floor p)
        (sym (choice-past line p past))
  ]

  module _ (line : List Choice) (r : IsRecoverable history marks failed line) where
    above_floor : IsNowhereLater (floor_line floor) (raised_line floor line)
    above_floor p =
        subst (λ (c : Choice). IsNoLater c (choice_at (raised_line floor line) p))
        (sym (floor_at floor p))
        (subst (IsNoLater (AtCheck (floor_check floor p))) (sym (raised_at line r.length_is p))
        (raised_above floor p (choice_at line p)))

    above_line : IsNowhereLater line (raised_line floor line)
    above_line p = subst (IsNoLater (choice_at line p)) (sym (raised_at line r.length_is p))
        (raised_later floor p (choice_at line p))

    raised_length : length (raised_line floor line) ≡ length history
    raised_length = length-map-range_with_len (λ q. raised floor q (choice_at line q)) 0
        (length line) ∙ r.length_is

    raised_recoverable : IsRecoverable history marks failed (raised_line floor line)
    raised_recoverable = record {
      length_is = raised_length;
      surviving = λ p. elim (raised_cases floor p (choice_at line p)) [
        | inl e ↦ ap (survives history marks failed p)
            (raised_at line r.length_is p ∙ e) ∙ r.surviving p
        | inr e ↦ ap (survives history marks failed p)
            (raised_at line r.length_is p ∙ e) ∙ floor_survives p
      ];
      consistent = λ q m c. elim (raised_cases floor q (choice_at line q)) [
        | inl e ↦ sent_later history line (raised_line floor line) m above_line
            (r.consistent q m (subst (λ (d : Choice). Contains (front (tape_at history q) d)
            (Recv m)) (raised_at line r.length_is q ∙ e) c))
        | inr e ↦ sent_later history (floor_line floor) (raised_line floor line) m above_floor
            (is.consistent q m (subst (λ (d : Choice). Contains (front (tape_at history q) d)
            (Recv m)) (raised_at line r.length_is q ∙ e ∙ sym (floor_at floor q)) c))
      ];
    }

  module _ (line : List Choice)
      (latest : IsLatest (cut_history floor history) (cut_marks floor marks) failed line) where
    count : length line ≡ length history
    count = latest.recoverable.length_is ∙ length_history floor history

    there : (p : ℕ) → p < length history
        → choice_at (whole_line floor line) p ≡ whole_choice floor p (choice_at line p)
    there p within = whole_at floor line p (omega (arith, count))

    pub cut_again : cut_line floor (whole_line floor line) ≡ line
    cut_again = same_line (cut_line floor (whole_line floor line)) line
        (length_cut floor (whole_line floor line) ∙ length_whole floor line)
        (λ p. elim (cases_lt p (length history)) [
          | inl within ↦ choice_cut floor (whole_line floor line) p ∙ ap (cut_choice floor p)
              (there p within) ∙ sent_back floor p (choice_at line p) (floor_below line latest p)
          | inr past ↦
              choice-past (cut_line floor (whole_line floor line)) p (omega
              (arith, length_cut floor (whole_line floor line), length_whole floor line, count))
              ∙ sym (choice-past line p (omega (arith, count)))
        ])

    pub whole_from_floor : IsNowhereLater (floor_line floor) (whole_line floor line)
    whole_from_floor p = subst (λ (c : Choice). IsNoLater c (choice_at (whole_line floor line) p))
        (sym (floor_at floor p)) (elim (cases_lt p (length history)) [
          | inl within ↦ subst (IsNoLater (AtCheck (floor_check floor p))) (sym (there p within))
              (whole_above floor p (choice_at line p))
          | inr past ↦
              subst (λ (c : ℕ). IsNoLater (AtCheck c) (choice_at (whole_line floor line) p))
              (sym (floor_past p past))
              (subst (IsNoLater (AtCheck 0)) (sym (choice-past (whole_line floor line) p
              (omega (arith, length_whole floor line, count)))) (IsNoLater-refl (AtCheck 0)))
        ])

    from_at : (p : ℕ)
        → IsNoLater (AtCheck (floor_check floor p)) (choice_at (whole_line floor line) p)
    from_at p = subst (λ (c : Choice). IsNoLater c (choice_at (whole_line floor line) p))
        (floor_at floor p) (whole_from_floor p)

    pub whole_recoverable : IsRecoverable history marks failed (whole_line floor line)
    whole_recoverable = record {
      length_is = length_whole floor line ∙ count;
      surviving = λ p. sym (survives_same p (choice_at (whole_line floor line) p) (from_at p)) ∙ ap
          (survives (cut_history floor history) (cut_marks floor marks) failed p)
          (sym (choice_cut floor (whole_line floor line) p) ∙ ap
          (λ (xs : List Choice). choice_at xs p) cut_again) ∙ latest.recoverable.surviving p;
      consistent = consistent_whole floor history (whole_line floor line) whole_from_floor agrees is
          (subst (IsConsistent (cut_history floor history))
          (sym cut_again) latest.recoverable.consistent);
    }

    -- the latest line of what is left, brought back, is the latest line of the whole
    pub latest_whole : IsLatest history marks failed (whole_line floor line)
    latest_whole = record {
      recoverable = whole_recoverable;
      latest = λ other r p.
          let up : List Choice = raised_line floor other in
          let low : IsNoLater (cut_choice floor p (choice_at up p))
          (cut_choice floor p (choice_at (whole_line floor line) p)) =
          subst (IsNoLater (cut_choice floor p (choice_at up p))) (sym (ap (λ (xs : List Choice).
          choice_at xs p) cut_again) ∙ choice_cut floor (whole_line floor line) p)
          (subst (λ (c : Choice). IsNoLater c (choice_at line p)) (choice_cut floor up p)
          (latest.latest (cut_line floor up)
          (recoverable_cut up (above_floor other r) (raised_recoverable other r)) p)) in
          IsNoLater-trans (choice_at other p) (choice_at up p) (choice_at (whole_line floor line) p)
          (above_line other r p)
          (whole_order floor p (choice_at up p) (choice_at (whole_line floor line) p)
          (subst (λ (c : Choice). IsNoLater c (choice_at up p)) (floor_at floor p)
          (above_floor other r p)) (from_at p) low);
    }
