-- What a collector lets go, and what it keeps then.
use Rattle.std.proofs.Common.{◌≡◌, ◌≢◌, ℕ, zero, suc, ◌+◌, ◌<◌, ◌≤◌, Bool, true, not, ◌&&◌, List}
use Rattle.std.proofs.Common.{[], length, get_or, map, None, Some, refl, sym, ap, ◌∙◌, subst, arith}
use Rattle.std.specs.Prelude.{IsTrue, Option}
use Rattle.std.proofs.lemmas.Bool.{false≢true}
use Rattle.std.proofs.lemmas.List.{get_or_default, length-map}
use Rattle.std.proofs.lemmas.List.FromFn.{length-map-range_with_len}
use Rattle.line_names.specs.declared.choices.Choice.{Choice}
use Rattle.line_names.specs.declared.choices.Choice.TheVariants.{Check as AtCheck, Now}
use Rattle.line_names.specs.Lines.{choice_at}
use Rattle.line_tape.specs.History.{Process}
use Rattle.line_tape.specs.Rounds.{check_line}
use Rattle.line_tape.specs.Survival.{is_allowed, survives, IsLatest}
use Rattle.line_tape.specs.Views.{MarksView, bar_at}
use Rattle.line_laws.proofs.KeptLemmas.{choice_of_checks}
use Rattle.line_catalogue.specs.Agreement.{Agrees}
use Rattle.line_catalogue.specs.Damage.{AreOnChecks}
use Rattle.line_cuts.specs.Cuts.{Floor, FloorSurvives, IsFloor, cut_history, cut_marks, floor_check}
use Rattle.line_cuts.specs.Cuts.{floor_line, lost_sends, whole_floor}
use Rattle.line_cuts.specs.Floors.{check_index_of, floor_of_line, settled_sends, IsOfChecks}
use Rattle.line_cuts.specs.Marks.{AreSameMarks}
use Rattle.line_cuts.proofs.AgreedFloors.{floor_both, later_stays}
use Rattle.line_cuts.proofs.AgreedMarks.{marks_both, marks_cut, marks_through}
use Rattle.line_cuts.proofs.FloorLemmas.{line_of_checks}
use Rattle.line_cuts.proofs.LaterFloors.{survives_both}
use Rattle.line_cuts.proofs.LatestCuts.{length_history}
use Rattle.line_cuts.proofs.SameLemmas.{latest_line_same, survives_same}
use Rattle.line_cuts.proofs.TwoCuts.{history_both}
use Rattle.line_posts.specs.declared.forgetting.Forgotten.{Forgotten}
use Rattle.line_posts.specs.declared.forgetting.TheConstants.{ALL_ROUNDS}
use Rattle.line_posts.specs.Forgotten.{floor_after, history_kept, kept_marks, taken_history}
use Rattle.line_posts.specs.Forgotten.{HaveAllFailed, IsLiveFloor}
use Rattle.line_posts.specs.Kept.{collector_at, floor_of, whole_marks, HasLetGo, IsKeptOf, IsLeftAt}
use Rattle.line_posts.specs.Collected.{CollectorView, HasForgotten}
use Rattle.line_posts.specs.Ends.{End}
use Rattle.line_tape.specs.declared.events.Event.{Event}
use Rattle.line_catalogue.specs.Views.{CatalogueView}

-- the latest line where each process fails has checks alone, and survives
module _ (history : List Process) (marks : MarksView) (failed : List Bool) (line : List Choice) (all
    : HaveAllFailed (length history) failed) (latest : IsLatest history marks failed line) where
  -- who failed cannot go on where it stands
  not_now : (p : ℕ) → p < length history → choice_at line p ≢ Now
  not_now p within now =
      let survives_there : survives history marks failed p Now ≡ true = subst (λ (choice : Choice).
      survives history marks failed p choice ≡ true) now (latest.recoverable.surviving p) in
      false≢true (sym (ap (λ (b : Bool). not b && is_allowed (bar_at marks p) Now) (all p within)) ∙
      survives_there)

  pub all_checks : IsOfChecks line
  all_checks k d within now =
      not_now k (omega (arith, within, latest.recoverable.length_is))
      (sym (get_or_default line k d (AtCheck 0) within) ∙ now)

  whoever : (p c : ℕ)
      → survives history marks failed p (AtCheck c) ≡ survives history marks [] p (AtCheck c)
  whoever p zero = refl
  whoever p (suc c) = refl

  pub live_survives : (last : ℕ) → FloorSurvives history marks (floor_of_line history line last)
  live_survives last p within =
      let indices : List ℕ = map check_index_of line in
      let there : IsTrue
      (survives history marks failed p (choice_at (check_line indices) p)) = subst
      (λ (choices : List Choice). IsTrue (survives history marks failed p (choice_at choices
      p))) (sym (line_of_checks line all_checks)) (latest.recoverable.surviving p) in
      let here : IsTrue (survives history marks failed p (AtCheck (get_or indices p 0))) = subst
      (λ (choice : Choice). IsTrue (survives history marks failed p choice))
      (choice_of_checks indices p) there in
      subst IsTrue (whoever p (get_or indices p 0)) here

-- what is left once what stands before such a floor is let go
module _ (kept : List Process) (kept_marks : MarksView) (later : Floor) (at : IsLiveFloor kept
    kept_marks later) (next : IsFloor kept later) (stays : FloorSurvives kept kept_marks later)
    (cut : List Process) (cut_marked : MarksView) (is_cut : cut ≡ cut_history later kept)
    (is_marked : AreSameMarks cut_marked (cut_marks later kept_marks)) where
  sends_count : length later.sends ≡ length kept
  sends_count = ap (λ (f : Floor). length f.sends) at.value ∙ length-map-range_with_len
      (settled_sends kept at.line) 0 (length kept)

  round_is : later.round ≡ ALL_ROUNDS
  round_is = ap (λ (f : Floor). f.round) at.value

  -- where nothing was let go before
  pub first_left : (history : List Process) → kept ≡ history → Agrees kept
      → AreOnChecks kept kept_marks → length kept_marks.damaged ≡ length kept
      → IsLeftAt later history kept_marks cut cut_marked
  first_left history same agrees on marked =
      subst (λ (h : List Process). IsLeftAt later h kept_marks cut cut_marked) same (record {
        agrees = agrees;
        on = on;
        marked = marked;
        sends = sends_count;
        round = round_is;
        is = next;
        stays = stays;
        left = is_cut;
        left_marks = is_marked;
      })

  -- where something was
  module _ (floor : Floor) (history : List Process) (marks : MarksView)
      (left : IsLeftAt floor history marks kept kept_marks) where
    abbrev both : Floor
    both = whole_floor floor later

    abbrev past : List Process
    past = cut_history floor history

    abbrev marked_past : MarksView
    marked_past = cut_marks floor marks

    size : length kept ≡ length history
    size = ap (λ (h : List Process). length h) left.left ∙ length_history floor history

    of_checks : IsOfChecks at.line
    of_checks = all_checks kept kept_marks at.failed at.line at.all at.latest

    line_is : floor_line later ≡ at.line
    line_is = ap (λ (f : Floor). floor_line f) at.value ∙ line_of_checks at.line of_checks

    latest_past : IsLatest past marked_past at.failed (floor_line later)
    latest_past =
        subst (IsLatest past marked_past at.failed) (sym line_is)
        (latest_line_same past kept_marks marked_past at.failed at.line left.left_marks (subst
        (λ (h : List Process). IsLatest h kept_marks at.failed at.line) left.left at.latest))

    -- who has left its initial state does not come back to it
    some : (p : ℕ) → p < length history → 1 ≤ floor_check floor p → 1 ≤ floor_check later p
    some =
        later_stays floor later history marks at.failed left.agrees left.is left.stays latest_past

    next_past : IsFloor past later
    next_past = subst (λ (h : List Process). IsFloor h later) left.left next

    stays_past : FloorSurvives past marked_past later
    stays_past p h =
        subst IsTrue
        (ap (λ (h : List Process). survives h kept_marks [] p (AtCheck (floor_check later p)))
        left.left
        ∙ survives_same past kept_marks marked_past [] left.left_marks p
        (AtCheck (floor_check later p)))
        (stays p (omega (arith, h, size, length_history floor history)))

    checks_count : length later.checks ≡ length history
    checks_count = sym (length-map later.checks (λ c. AtCheck c)) ∙ next_past.line.length_is ∙
        length_history floor history

    first_count : length floor.checks ≡ length history
    first_count = sym (length-map floor.checks (λ c. AtCheck c)) ∙ left.is.line.length_is

    alike : length floor.sends ≡ length later.sends
    alike = left.sends ∙ sym (sends_count ∙ size)

    rising : floor.round ≤ later.round
    rising = omega (arith, left.round, round_is)

    pub further_left : IsLeftAt both history marks cut cut_marked
    further_left = record {
      agrees = left.agrees;
      on = left.on;
      marked = left.marked;
      sends = length-map-range_with_len (λ p. lost_sends floor p + lost_sends later p) 0
          (length later.sends) ∙ sends_count ∙ size;
      round = round_is;
      is = floor_both floor later history left.is next_past some left.agrees;
      stays = survives_both floor later history left.is next_past some marks left.stays stays_past;
      left = is_cut ∙ ap (cut_history later) left.left ∙ history_both floor later history
          checks_count alike some rising;
      left_marks =
          subst (AreSameMarks cut_marked)
          (marks_both floor later history marks checks_count first_count some)
          (marks_through cut_marked (cut_marks later kept_marks) (cut_marks later marked_past)
          is_marked (marks_cut later kept_marks marked_past left.left_marks));
    }

  -- in either case
  pub keeps_left : (old : Option Forgotten) (history : List Process) (new : Forgotten)
      → IsKeptOf old history kept kept_marks → Agrees kept → AreOnChecks kept kept_marks
      → length kept_marks.damaged ≡ length kept
      → new.floor ≡ floor_after (floor_of old) later → new.marks ≡ whole_marks old kept_marks
      → IsLeftAt new.floor history new.marks cut cut_marked
  keeps_left None history new keeps agrees on marked floor marks =
      subst (λ (f : Floor). IsLeftAt f history new.marks cut cut_marked) (sym floor)
      (subst (λ (m : MarksView). IsLeftAt later history m cut cut_marked) (sym marks)
      (first_left history keeps agrees on marked))
  keeps_left (Some old) history new left agrees on marked floor marks =
      subst (λ (f : Floor). IsLeftAt f history new.marks cut cut_marked) (sym floor)
      (subst (λ (m : MarksView). IsLeftAt (whole_floor old.floor later) history m cut cut_marked)
      (sym marks) (further_left old.floor history old.marks left))

-- what is kept has as many processes as the whole
pub kept_long : (forgotten : Option Forgotten) (history kept : List Process) (kept_marks :
    MarksView) → IsKeptOf forgotten history kept kept_marks → length kept ≡ length history
kept_long None history kept marks same = ap (λ (h : List Process). length h) same
kept_long (Some forgotten) history kept marks left =
    ap (λ (h : List Process). length h) left.left ∙ length_history forgotten.floor history

-- a floor of what is kept, as it follows from the whole
pub live_of_kept : (forgotten : Option Forgotten) (history kept : List Process) (marks : MarksView)
    (later : Floor) → IsKeptOf forgotten history kept marks → IsLiveFloor kept marks later
    → IsLiveFloor (history_kept (floor_of forgotten) history)
    (kept_marks (floor_of forgotten) (whole_marks forgotten marks)) later
live_of_kept None history kept marks later same at =
    subst (λ (h : List Process). IsLiveFloor h marks later) same at
live_of_kept (Some forgotten) history kept marks later left at =
    let there : IsLiveFloor (cut_history forgotten.floor history) marks later = subst
    (λ (h : List Process). IsLiveFloor h marks later) left.left at in
    record {
      failed = there.failed;
      all = there.all;
      line = there.line;
      latest = latest_line_same (cut_history forgotten.floor history) marks (cut_marks
          forgotten.floor forgotten.marks) there.failed there.line left.left_marks there.latest;
      value = there.value;
    }

-- the collector after such a call
pub forgotten_of : (opening : List Process) (old new : Option Forgotten) (kept left : CatalogueView)
    (lines : List (End Event)) (seen : List (List Event)) (capacity : ℕ)
    → IsKeptOf old (taken_history opening lines) kept.processes kept.marks
    → HasLetGo old kept (taken_history opening lines) new left
    → HasForgotten (collector_at opening old kept.marks lines seen capacity)
    (collector_at opening new left.marks lines seen capacity)
forgotten_of opening old new kept left lines seen capacity keeps has =
    let was : CollectorView = collector_at opening old kept.marks lines seen capacity in
    record {
      later = has.later;
      at = live_of_kept old
          (taken_history opening lines) kept.processes kept.marks has.later keeps has.at;
      new_is =
          ap (λ (m : MarksView). let v : CollectorView = record was
          { marks = m; floor = floor_of new } in v) has.marks
          ∙ ap (λ (f : Option Floor). let v : CollectorView = record was { floor = f } in v)
          has.floor;
    }

-- what is kept is what is left at the floor
pub kept_is : (forgotten : Option Forgotten) (history kept : List Process) (marks : MarksView)
    → IsKeptOf forgotten history kept marks → kept ≡ history_kept (floor_of forgotten) history
kept_is None history kept marks same = same
kept_is (Some forgotten) history kept marks left = left.left
