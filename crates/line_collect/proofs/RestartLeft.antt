-- What a restart at a line from the floor on leaves of marks and bars.
use Rattle.std.proofs.Common.{◌≡◌, ℕ, zero, suc, ◌-◌, ◌<◌, ◌≤◌, false, not, ◌&&◌, leb, List, []}
use Rattle.std.proofs.Common.{length, map, get_or, replicate, Option, None, refl, sym, ap, ◌∙◌}
use Rattle.std.proofs.Common.{subst, arith}
use Rattle.std.specs.Prelude.{nat_lt, ◌==◌, IsTrue}
use Rattle.std.specs.List.{filter, list_any}
use Rattle.std.proofs.lemmas.Bool.{le-leb}
use Rattle.std.proofs.lemmas.List.{length-replicate}
use Rattle.std.proofs.lemmas.List.FromFn.{length-map-range_with_len}
use Rattle.line_names.specs.declared.choices.Choice.{Choice}
use Rattle.line_names.specs.declared.choices.Choice.TheVariants.{Check as AtCheck}
use Rattle.line_names.specs.Lines.{choice_at, IsNowhereLater}
use Rattle.line_names.specs.Order.{IsNoLater}
use Rattle.line_tape.specs.Event.{checks}
use Rattle.line_tape.specs.Front.{HasChoice}
use Rattle.line_tape.specs.History.{Process, tape_at}
use Rattle.line_tape.specs.Restart.{is_kept, restarted_damage, restarted_history, restarted_marks}
use Rattle.line_tape.specs.Survival.{survives, is_allowed, is_damaged}
use Rattle.line_tape.specs.Views.{MarksView, bar_at, damaged_at}
use Rattle.line_tape.proofs.EachLemmas.{damage-each, each_at, kept_damage, length-each}
use Rattle.line_cuts.specs.Cuts.{Floor, FloorSurvives, IsFloor, floor_check, floor_line}
use Rattle.line_cuts.specs.Cuts.{lost_checks, cut_choice, cut_bar, cut_marks, whole_choice}
use Rattle.line_cuts.specs.Cuts.{whole_line}
use Rattle.line_cuts.proofs.ConsistentCuts.{floor_at}
use Rattle.line_cuts.proofs.FloorStays.{floor_restarted}
use Rattle.line_cuts.proofs.LatestCuts.{length_whole, whole_at}
use Rattle.line_cuts.proofs.StepCuts.{length_restarted}
use Rattle.line_cuts.proofs.SurvivalCuts.{bar_cut, damaged_cut, undamaged}
use Rattle.line_cuts.proofs.SameLists.{same_list}
use Rattle.line_live.proofs.RestartCuts.{damage_kept, none_at, any_kept}

module _ (floor : Floor) (history : List Process) (marks : MarksView) (is : IsFloor history floor)
    (stays : FloorSurvives history marks floor) (size_marks : length marks.damaged ≡ length history)
    (there_line : List Choice) (count : length there_line ≡ length history)
    (low : (p : ℕ)
    → IsNoLater (cut_choice floor p (AtCheck (floor_check floor p))) (choice_at there_line p))
    (from_floor : IsNowhereLater (floor_line floor) (whole_line floor there_line)) where
  abbrev line : List Choice
  line = whole_line floor there_line

  long : length line ≡ length history
  long = length_whole floor there_line ∙ count

  there : (p : ℕ) → p < length history
      → choice_at line p ≡ whole_choice floor p (choice_at there_line p)
  there p h = whole_at floor there_line p (omega (arith, count))

  abbrev new : List Process
  new = restarted_history history line

  long_new : length new ≡ length history
  long_new = length_restarted history line long

  -- the marks after the restart
  abbrev marked : MarksView
  marked = restarted_marks marks line

  pub damaged_long : length marked.damaged ≡ length history
  damaged_long = ap (λ (xs : List (List ℕ)). length xs) (damage-each marks.damaged line) ∙
      length-each kept_damage marks.damaged line (omega (arith, size_marks, long)) ∙ size_marks

  damaged_new : (p : ℕ) → p < length history
      → damaged_at marked p ≡ filter (is_kept (choice_at line p)) (damaged_at marks p)
  damaged_new p within =
      ap (λ (xs : List (List ℕ)). get_or xs p [])
      (damage-each marks.damaged line) ∙ each_at kept_damage marks.damaged line p [] []
      (AtCheck 0) (omega (arith, size_marks)) (omega (arith, size_marks, long))

  damaged_same : restarted_damage (cut_marks floor marks).damaged there_line
      ≡ (cut_marks floor marked).damaged
  damaged_same =
      let cut_all : (v : MarksView)
      → length (cut_marks floor v).damaged
      ≡ length v.damaged = λ v. length-map-range_with_len
      (λ p. map (λ c. c - lost_checks floor p)
      (filter (λ c. nat_lt (floor_check floor p) c) (damaged_at v p))) 0 (length v.damaged) in
      let few : length (cut_marks floor marks).damaged ≤ length there_line = omega
      (arith, cut_all marks, size_marks, count) in
      let size : length (restarted_damage (cut_marks floor marks).damaged there_line)
      ≡ length history = ap (λ (xs : List (List ℕ)). length xs)
      (damage-each (cut_marks floor marks).damaged there_line) ∙ length-each kept_damage
      (cut_marks floor marks).damaged there_line few ∙ cut_all marks ∙ size_marks in
      same_list [] (restarted_damage (cut_marks floor marks).damaged there_line)
      (cut_marks floor marked).damaged
      (size ∙ sym damaged_long ∙ sym (cut_all marked))
      (λ p h.
      let within : p < length history = omega (arith, size) in
      ap (λ (xs : List (List ℕ)). get_or xs p [])
      (damage-each (cut_marks floor marks).damaged there_line)
      ∙ each_at kept_damage (cut_marks floor marks).damaged there_line p [] [] (AtCheck 0)
      (omega (arith, within, cut_all marks, size_marks)) few
      ∙ ap (filter (is_kept (choice_at there_line p))) (damaged_cut floor history marks p)
      ∙ damage_kept floor p (choice_at there_line p) (damaged_at marks p) (low p)
      ∙ ap (λ (c : Choice). map (λ d. d - lost_checks floor p) (filter (λ d. nat_lt (floor_check
      floor p) d) (filter (is_kept c) (damaged_at marks p)))) (sym (there p within))
      ∙ sym (ap (λ xs. map (λ d. d - lost_checks floor p)
      (filter (λ d. nat_lt (floor_check floor p) d) xs)) (damaged_new p within))
      ∙ sym (damaged_cut floor history marked p))

  bars_same : replicate (length (cut_marks floor marks).bars) None ≡ (cut_marks floor marked).bars
  bars_same =
      let cut_all : (v : MarksView)
      → length (cut_marks floor v).bars ≡ length v.bars = λ v. length-map-range_with_len
      (λ p. cut_bar (lost_checks floor p) (bar_at v p)) 0 (length v.bars) in
      same_list None (replicate (length (cut_marks floor marks).bars) None)
      (cut_marks floor marked).bars
      (length-replicate (length (cut_marks floor marks).bars) None ∙ cut_all marks ∙ sym
      (length-replicate (length marks.bars) None) ∙ sym (cut_all marked))
      (λ p h. none_at (length (cut_marks floor marks).bars) p ∙ sym (ap (cut_bar (lost_checks floor
      p)) (none_at (length marks.bars) p)) ∙ sym (bar_cut floor history marked p))

  pub marks_same : restarted_marks (cut_marks floor marks) there_line ≡ cut_marks floor marked
  marks_same =
      let make : List (List ℕ) → List (Option ℕ)
      → MarksView = λ damaged bars. record { damaged = damaged; bars = bars } in
      ap (λ (v : List (List ℕ)). make v (replicate (length (cut_marks floor marks).bars) None))
      damaged_same ∙ ap (make (cut_marks floor marked).damaged) bars_same

  -- the floor survives the restart
  pub stays_new : (p : ℕ) → p < length new
      → IsTrue (survives new marked [] p (AtCheck (floor_check floor p)))
  stays_new p h = at (floor_check floor p) refl (stays p (omega (arith, long_new)))
    where
      there_still : floor_check floor p ≤ checks (tape_at new p)
      there_still = subst (HasChoice (tape_at new p)) (floor_at floor p)
          ((floor_restarted history floor is line long from_floor).line.exist p)

      at : (c : ℕ) → c ≡ floor_check floor p → IsTrue (survives history marks [] p (AtCheck c))
          → IsTrue (survives new marked [] p (AtCheck c))
      at zero e s = refl
      at (suc c) e s =
          let none : is_damaged marks p (suc c)
          ≡ false = undamaged (leb (suc c) (checks (tape_at history p)))
          (is_damaged marks p (suc c)) (is_allowed (bar_at marks p) (AtCheck (suc c))) s in
          let clear : is_damaged marked p (suc c)
          ≡ false = ap (λ xs. list_any (λ d. d == suc c) xs)
          (damaged_new p (omega (arith, h, long_new))) ∙ any_kept (suc c)
          (is_kept (choice_at line p)) (damaged_at marks p) none in
          ap (λ b. b && not (is_damaged marked p (suc c)) && is_allowed (bar_at marked p) (AtCheck
          (suc c))) (le-leb (suc c) (checks (tape_at new p)) (omega (arith, e, there_still)))
          ∙ ap (λ b. not b && is_allowed (bar_at marked p) (AtCheck (suc c))) clear
          ∙ ap (λ (o : Option ℕ). is_allowed o (AtCheck (suc c))) (none_at (length marks.bars) p)
