-- A floor of what is left is a floor of the whole, of a history that agrees.
use Rattle.std.proofs.Common.{◌≡◌, ℕ, ◌+◌, ◌-◌, ◌<◌, ◌≤◌, Bool, true, List, length, take, sym, ap}
use Rattle.std.proofs.Common.{◌∙◌, subst, arith, inl, inr}
use Rattle.std.specs.List.{Contains, slice_get}
use Rattle.std.proofs.lemmas.Bool.{le-leb, cases_lt}
use Rattle.std.proofs.lemmas.List.{get_or_past, length-map, take-take}
use Rattle.std.proofs.lemmas.List.FromFn.{length-map-range_with_len, get_or-map-range_with_len}
use Rattle.line_names.specs.declared.choices.Choice.{Choice}
use Rattle.line_names.specs.declared.choices.Choice.TheVariants.{Check as AtCheck}
use Rattle.line_names.specs.declared.messages.MsgName.{MsgName}
use Rattle.line_names.specs.Lines.{choice_at, IsNowhereLater}
use Rattle.line_names.specs.Order.{IsNoLater}
use Rattle.line_tape.specs.declared.events.Event.{Event}
use Rattle.line_tape.specs.declared.events.Event.TheVariants.{Recv}
use Rattle.line_tape.specs.Event.{checks, sends}
use Rattle.line_tape.specs.Front.{place, HasChoice}
use Rattle.line_tape.specs.History.{Process, tape_at}
use Rattle.line_tape.specs.Line.{events_before, IsConsistent, IsReceivedBefore}
use Rattle.line_tape.specs.Survival.{IsLatest}
use Rattle.line_tape.specs.Transit.{addressees}
use Rattle.line_tape.specs.Views.{MarksView}
use Rattle.line_tape.proofs.ChoiceLemmas.{choice-past}
use Rattle.line_tape.proofs.CutLemmas.{sends_take}
use Rattle.line_tape.proofs.FrontLemmas.{place-mono}
use Rattle.line_cuts.specs.Cuts.{Floor, IsFloor, FloorSurvives, floor_check, lost_checks}
use Rattle.line_cuts.specs.Cuts.{lost_sends, floor_line, is_left, cut_name, cut_tape, cut_history}
use Rattle.line_cuts.specs.Cuts.{cut_choice, cut_line, cut_marks, whole_floor, whole_name}
use Rattle.line_cuts.proofs.AgreementCuts.{count_cut, held_cut}
use Rattle.line_cuts.proofs.EventCuts.{received_left}
use Rattle.line_cuts.proofs.SendCuts.{addressed_left_at, name_back, sends_left}
use Rattle.line_cuts.proofs.AgreedTransit.{received_above}
use Rattle.line_cuts.proofs.TwoCuts.{check_both}
use Rattle.line_tape.specs.Fit.{IsSentTo}
use Rattle.line_catalogue.specs.Agreement.{Agrees}
use Rattle.line_cuts.proofs.ConsistentCuts.{tape_cut, choice_cut, floor_at, events_cut}
use Rattle.line_cuts.proofs.LatestCuts.{length_history, length_cut, same_line}
use Rattle.line_cuts.proofs.AgreedCuts.{consistent_whole}
use Rattle.line_cuts.proofs.AgreedLatest.{floor_below}

-- past the processes a floor is at their initial states
floor_past : (floor : Floor) (history : List Process) → IsFloor history floor → (p : ℕ)
    → length history ≤ p → floor_check floor p ≡ 0
floor_past floor history is p past =
    let none : AtCheck (floor_check floor p) ≡ AtCheck 0 = sym (floor_at floor p) ∙ choice-past
    (floor_line floor) p (omega (arith, is.line.length_is)) in
    cc none

-- no more is let go by both than by the one and then by the other
sends_most : (floor later : Floor) (p : ℕ)
    → lost_sends (whole_floor floor later) p ≤ lost_sends floor p + lost_sends later p
sends_most floor later p = elim (cases_lt p (length later.sends)) [
  | inl within ↦ omega (
    arith,
    get_or-map-range_with_len (λ q. lost_sends floor q + lost_sends later
        q) 0 (length later.sends) p p 0 within (omega arith),
  )
  | inr past ↦ omega (
    arith,
    get_or_past (whole_floor floor later).sends p 0
        (omega (
          arith,
          length-map-range_with_len (λ q. lost_sends floor q + lost_sends later q) 0
              (length later.sends),
        )),
  )
]

-- the addressee of a message that is left
addressed_cut : (floor : Floor) (history : List Process) (m : MsgName)
    → lost_sends floor m.from ≤ m.number
    → slice_get (addressees (tape_at (cut_history floor history) m.from)) (m.number - lost_sends
    floor m.from) ≡ slice_get (addressees (tape_at history m.from)) m.number
addressed_cut floor history m h =
    let number : (m.number - lost_sends floor m.from) + (lost_sends floor m.from - 0)
    ≡ m.number = omega arith in
    ap (λ (es : List Event). slice_get (addressees es) (m.number - lost_sends floor m.from))
    (tape_cut floor history m.from)
    ∙ addressed_left_at floor m.from 0 (floor_check floor m.from)
    (m.number - lost_sends floor m.from) (tape_at history m.from)
    ∙ ap (slice_get (addressees (tape_at history m.from))) number

module _ (floor later : Floor) (history : List Process) (is : IsFloor history floor)
    (next : IsFloor (cut_history floor history) later)
    (some : (p : ℕ) → p < length history → 1 ≤ floor_check floor p → 1 ≤ floor_check later p) where
  abbrev both : Floor
  both = whole_floor floor later

  count : length later.checks ≡ length history
  count = sym (length-map later.checks (λ c. AtCheck c)) ∙ next.line.length_is ∙ length_history
      floor history

  count_both : length both.checks ≡ length history
  count_both = length-map-range_with_len (λ p. floor_check later p + lost_checks floor p) 0
      (length later.checks) ∙ count

  both_past : (p : ℕ) → length history ≤ p → floor_check both p ≡ 0
  both_past p past = get_or_past both.checks p 0 (omega (arith, count_both))

  both_within : (p : ℕ) → p < length history
      → floor_check both p ≡ floor_check later p + lost_checks floor p
  both_within p h = check_both floor later p (omega (arith, count))

  -- the later floor, in what is left
  later_at : (p : ℕ) → floor_check both p - lost_checks floor p ≡ floor_check later p
  later_at p = elim (cases_lt p (length history)) [
    | inl within ↦ omega (arith, both_within p within)
    | inr past ↦ omega
        (arith, both_past p past, get_or_past later.checks p 0 (omega (arith, count)))
  ]

  -- and it is nowhere before the first one
  no_less : (p : ℕ) → floor_check floor p ≤ floor_check both p
  no_less p = elim (cases_lt p (length history)) [
    | inl within ↦ elim (cases_lt 0 (floor_check floor p)) [
      | inl left ↦ omega (arith, both_within p within, some p within (omega arith))
      | inr initial ↦ omega arith
    ]
    | inr past ↦ omega (arith, floor_past floor history is p past)
  ]

  above : IsNowhereLater (floor_line floor) (floor_line both)
  above p =
      subst (λ (c : Choice). IsNoLater c (choice_at (floor_line both) p)) (sym (floor_at floor p))
      (subst (IsNoLater (AtCheck (floor_check floor p))) (sym (floor_at both p)) (no_less p))

  cut_both_line : cut_line floor (floor_line both) ≡ floor_line later
  cut_both_line = same_line (cut_line floor (floor_line both)) (floor_line later)
      (length_cut floor (floor_line both) ∙ length-map both.checks (λ c. AtCheck c) ∙ count_both ∙
      sym count ∙ sym (length-map later.checks (λ c. AtCheck c)))
      (λ p. choice_cut floor (floor_line both) p ∙ ap (cut_choice floor p)
      (floor_at both p) ∙ ap AtCheck (later_at p) ∙ sym (floor_at later p))

  -- what stands before it is what is left of what stands before the other
  fronts : (p : ℕ) → events_before (cut_history floor history) (floor_line later) p
      ≡ cut_tape floor p (events_before history (floor_line both) p)
  fronts p = ap (λ (line : List Choice). events_before (cut_history floor history) line p)
      (sym cut_both_line) ∙ events_cut floor history (floor_line both) above p

  has : (p : ℕ) → floor_check both p ≤ checks (tape_at history p)
  has p = elim (cases_lt p (length history)) [
    | inl within ↦
        let there : floor_check later p ≤ checks (tape_at (cut_history floor history) p) = subst
        (HasChoice (tape_at (cut_history floor history) p)) (floor_at later p)
        (next.line.exist p) in
        omega (arith, both_within p within, count_cut floor history is p)
    | inr past ↦ omega (arith, both_past p past)
  ]

  -- as many sends stand before the later line, or more
  more_sends : (p : ℕ) → sends (events_before history (floor_line floor) p) ≤ sends
      (events_before history (floor_line both) p)
  more_sends p =
      let tape : List Event = tape_at history p in
      let i : ℕ = place tape (choice_at (floor_line floor) p) in
      let j : ℕ = place tape (choice_at (floor_line both) p) in
      let first : sends (take i (take j tape))
      ≡ sends (take i tape) = ap sends (take-take i j tape (place-mono tape
      (choice_at (floor_line floor) p) (choice_at (floor_line both) p) (above p))) in
      omega (arith, first, sends_take (take j tape) i)

  module _ (agrees : Agrees history) where
    received_both : (q : ℕ) (m : MsgName) → IsSentTo history q m → m.number < lost_sends both m.from
        → IsReceivedBefore history (floor_line both) q m
    received_both q m to below = elim (cases_lt m.number (lost_sends floor m.from)) [
      | inl gone ↦ received_above floor history (floor_line both) above is q m
          (is.received q m to gone)
      | inr left ↦
          let kept : is_left floor m ≡ true = le-leb (lost_sends floor m.from) m.number left in
          let there : IsSentTo (cut_history floor history) q
          (cut_name floor m) = record {
            held = held_cut floor history m kept ∙ to.held;
            to_is =
                addressed_cut floor history m left ∙ to.to_is;
          } in
          let got : IsReceivedBefore (cut_history floor history) (floor_line later) q
          (cut_name floor m) = next.received q (cut_name floor m) there
          (omega (arith, sends_most floor later m.from)) in
          let l = received_left floor q 0 (floor_check floor q)
          (events_before history (floor_line both) q) (cut_name floor m)
          (subst (λ (es : List Event). Contains es (Recv (cut_name floor m))) (fronts q) got) in
          let same : l.whole ≡ m = sym (name_back floor l.whole l.is) ∙ sym
          (ap (whole_name floor) l.name) ∙ name_back floor m kept in
          subst (λ (v : MsgName). Contains (events_before history (floor_line both) q) (Recv v))
          same l.among
    ]

    -- a floor of what is left is a floor of the whole
    pub floor_both : IsFloor history both
    floor_both = record {
      line = record {
        length_is = length-map both.checks (λ c. AtCheck c) ∙ count_both;
        exist = λ p. subst (HasChoice (tape_at history p)) (sym (floor_at both p)) (has p);
      };
      consistent = consistent_whole floor history (floor_line both) above agrees is
          (subst (IsConsistent (cut_history floor history)) (sym cut_both_line) next.consistent);
      sent = λ p. omega (
        arith,
        sends_most floor later p,
        is.sent p,
        more_sends p,
        next.sent p,
        ap sends
            (fronts p),
        sends_left floor p 0 (floor_check floor p)
            (events_before history (floor_line both) p),
      );
      received = received_both;
    }

module _ (floor later : Floor) (history : List Process) (marks : MarksView) (failed : List Bool)
    (agrees : Agrees history) (is : IsFloor history floor)
    (stays : FloorSurvives history marks floor) where
  -- who has left its initial state does not come back to it at a latest line
  pub later_stays : IsLatest (cut_history floor history) (cut_marks floor marks) failed (floor_line
      later) → (p : ℕ) → p < length history → 1 ≤ floor_check floor p → 1 ≤ floor_check later p
  later_stays latest p h left =
      let low : floor_check floor p - lost_checks floor p ≤ floor_check later p = subst
      (IsNoLater (cut_choice floor p (AtCheck (floor_check floor p)))) (floor_at later p)
      (floor_below floor history marks failed agrees is stays (floor_line later) latest p) in
      omega arith
