-- A floor of what is left is a floor of the whole.
use Rattle.std.proofs.Common.{◌≡◌, ℕ, zero, suc, ◌+◌, ◌-◌, ◌<◌, ◌≤◌, Bool, true, false, cond, List}
use Rattle.std.proofs.Common.{[], ◌∷◌, length, take, Option, Some, None, refl, sym, ap, ◌∙◌, subst}
use Rattle.std.proofs.Common.{arith, inl, inr}
use Rattle.std.specs.Prelude.{nat_le, nat_lt}
use Rattle.std.specs.List.{All, Contains, slice_get}
use Rattle.std.proofs.lemmas.Bool.{le-leb, ltb-false, cases_lt}
use Rattle.std.proofs.lemmas.List.{get_or_past, length-map, take-take}
use Rattle.std.proofs.lemmas.List.Elements.{All-cons, All-head, All-tail}
use Rattle.std.proofs.lemmas.List.FromFn.{length-map-range_with_len, get_or-map-range_with_len}
use Rattle.line_names.specs.declared.choices.Choice.{Choice}
use Rattle.line_names.specs.declared.choices.Choice.TheVariants.{Check as AtCheck}
use Rattle.line_names.specs.declared.messages.MsgName.{MsgName}
use Rattle.line_names.specs.Lines.{choice_at, IsNowhereLater}
use Rattle.line_names.specs.Order.{IsNoLater}
use Rattle.line_tape.specs.declared.events.Event.{Event}
use Rattle.line_tape.specs.declared.events.Event.TheVariants.{Send, Recv, Check, Mark}
use Rattle.line_tape.specs.Event.{checks, sends}
use Rattle.line_tape.specs.Fit.{IsFitUnordered, IsSentTo}
use Rattle.line_tape.specs.Front.{front, place, HasChoice}
use Rattle.line_tape.specs.History.{Process, tape_at}
use Rattle.line_tape.specs.Line.{events_before, IsConsistent, IsReceivedBefore}
use Rattle.line_tape.specs.Rounds.{rounds_checked}
use Rattle.line_tape.specs.Survival.{survives, IsLatest}
use Rattle.line_tape.specs.Transit.{addressees}
use Rattle.line_tape.specs.Views.{MarksView}
use Rattle.line_tape.proofs.ChoiceLemmas.{choice-past}
use Rattle.line_tape.proofs.CutLemmas.{sends_take}
use Rattle.line_tape.proofs.FrontLemmas.{place-mono}
use Rattle.line_tape.proofs.StayLemmas.{front_kept}
use Rattle.line_cuts.specs.Cuts.{Floor, IsFloor, FloorSurvives, HasOldRounds, floor_check}
use Rattle.line_cuts.specs.Cuts.{lost_checks, lost_sends, floor_line, is_left, cut_name, cut_round}
use Rattle.line_cuts.specs.Cuts.{cut_events, cut_tape, cut_history, cut_choice, cut_line, cut_marks}
use Rattle.line_cuts.specs.Cuts.{whole_floor, whole_name}
use Rattle.line_cuts.proofs.AgreementCuts.{count_cut, held_cut}
use Rattle.line_cuts.proofs.ConsistentCuts.{tape_cut, choice_cut, floor_at, events_cut}
use Rattle.line_cuts.proofs.ConsistentCuts.{consistent_whole}
use Rattle.line_cuts.proofs.EventCuts.{received_left}
use Rattle.line_cuts.proofs.LatestCuts.{floor_below, length_history, length_cut, same_line}
use Rattle.line_cuts.proofs.LinkCuts.{AreOld, old_none, old_send, old_recv, old_mark}
use Rattle.line_cuts.proofs.SendCuts.{addressed_left_at, name_back, sends_left}
use Rattle.line_cuts.proofs.SurvivalCuts.{survives_cut}
use Rattle.line_cuts.proofs.TransitCuts.{received_above}
use Rattle.line_cuts.proofs.TwoCuts.{check_both}

-- past the processes a floor is at their initial states
floor_past : (floor : Floor) (history : List Process) → IsFloor history floor → (p : ℕ)
    → length history ≤ p → floor_check floor p ≡ 0
floor_past floor history is p past =
    let none : AtCheck (floor_check floor p) ≡ AtCheck 0 = sym (floor_at floor p) ∙ choice-past
    (floor_line floor) p (omega (arith, is.line.length_is)) in
    cc none

-- no more is let go by both than by the one and then by the other
sends_most : (floor later : Floor) (p : ℕ)
    → lost_sends (whole_floor floor later) p ≤ lost_sends floor p + lost_sends later p
sends_most floor later p = elim (cases_lt p (length later.sends)) [
  | inl within ↦ omega (
    arith,
    get_or-map-range_with_len (λ q. lost_sends floor q + lost_sends later
        q) 0 (length later.sends) p p 0 within (omega arith),
  )
  | inr past ↦ omega (
    arith,
    get_or_past (whole_floor floor later).sends p 0
        (omega (
          arith,
          length-map-range_with_len (λ q. lost_sends floor q + lost_sends later q) 0
              (length later.sends),
        )),
  )
]

-- the addressee of a message that is left
addressed_cut : (floor : Floor) (history : List Process) (m : MsgName)
    → lost_sends floor m.from ≤ m.number
    → slice_get (addressees (tape_at (cut_history floor history) m.from)) (m.number - lost_sends
    floor m.from) ≡ slice_get (addressees (tape_at history m.from)) m.number
addressed_cut floor history m h =
    let number : (m.number - lost_sends floor m.from) + (lost_sends floor m.from - 0)
    ≡ m.number = omega arith in
    ap (λ (es : List Event). slice_get (addressees es) (m.number - lost_sends floor m.from))
    (tape_cut floor history m.from)
    ∙ addressed_left_at floor m.from 0 (floor_check floor m.from)
    (m.number - lost_sends floor m.from) (tape_at history m.from)
    ∙ ap (slice_get (addressees (tape_at history m.from))) number

module _ (floor later : Floor) (history : List Process) (is : IsFloor history floor)
    (next : IsFloor (cut_history floor history) later)
    (some : (p : ℕ) → p < length history → 1 ≤ floor_check floor p → 1 ≤ floor_check later p) where
  abbrev both : Floor
  both = whole_floor floor later

  count : length later.checks ≡ length history
  count = sym (length-map later.checks (λ c. AtCheck c)) ∙ next.line.length_is ∙ length_history
      floor history

  count_both : length both.checks ≡ length history
  count_both = length-map-range_with_len (λ p. floor_check later p + lost_checks floor p) 0
      (length later.checks) ∙ count

  both_past : (p : ℕ) → length history ≤ p → floor_check both p ≡ 0
  both_past p past = get_or_past both.checks p 0 (omega (arith, count_both))

  both_within : (p : ℕ) → p < length history
      → floor_check both p ≡ floor_check later p + lost_checks floor p
  both_within p h = check_both floor later p (omega (arith, count))

  -- the later floor, in what is left
  later_at : (p : ℕ) → floor_check both p - lost_checks floor p ≡ floor_check later p
  later_at p = elim (cases_lt p (length history)) [
    | inl within ↦ omega (arith, both_within p within)
    | inr past ↦ omega
        (arith, both_past p past, get_or_past later.checks p 0 (omega (arith, count)))
  ]

  -- and it is nowhere before the first one
  no_less : (p : ℕ) → floor_check floor p ≤ floor_check both p
  no_less p = elim (cases_lt p (length history)) [
    | inl within ↦ elim (cases_lt 0 (floor_check floor p)) [
      | inl left ↦ omega (arith, both_within p within, some p within (omega arith))
      | inr initial ↦ omega arith
    ]
    | inr past ↦ omega (arith, floor_past floor history is p past)
  ]

  above : IsNowhereLater (floor_line floor) (floor_line both)
  above p =
      subst (λ (c : Choice). IsNoLater c (choice_at (floor_line both) p)) (sym (floor_at floor p))
      (subst (IsNoLater (AtCheck (floor_check floor p))) (sym (floor_at both p)) (no_less p))

  cut_both_line : cut_line floor (floor_line both) ≡ floor_line later
  cut_both_line = same_line (cut_line floor (floor_line both)) (floor_line later)
      (length_cut floor (floor_line both) ∙ length-map both.checks (λ c. AtCheck c) ∙ count_both ∙
      sym count ∙ sym (length-map later.checks (λ c. AtCheck c)))
      (λ p. choice_cut floor (floor_line both) p ∙ ap (cut_choice floor p)
      (floor_at both p) ∙ ap AtCheck (later_at p) ∙ sym (floor_at later p))

  -- what stands before it is what is left of what stands before the other
  fronts : (p : ℕ) → events_before (cut_history floor history) (floor_line later) p
      ≡ cut_tape floor p (events_before history (floor_line both) p)
  fronts p = ap (λ (line : List Choice). events_before (cut_history floor history) line p)
      (sym cut_both_line) ∙ events_cut floor history (floor_line both) above p

  has : (p : ℕ) → floor_check both p ≤ checks (tape_at history p)
  has p = elim (cases_lt p (length history)) [
    | inl within ↦
        let there : floor_check later p ≤ checks (tape_at (cut_history floor history) p) = subst
        (HasChoice (tape_at (cut_history floor history) p)) (floor_at later p)
        (next.line.exist p) in
        omega (arith, both_within p within, count_cut floor history is p)
    | inr past ↦ omega (arith, both_past p past)
  ]

  -- as many sends stand before the later line, or more
  more_sends : (p : ℕ) → sends (events_before history (floor_line floor) p) ≤ sends
      (events_before history (floor_line both) p)
  more_sends p =
      let tape : List Event = tape_at history p in
      let i : ℕ = place tape (choice_at (floor_line floor) p) in
      let j : ℕ = place tape (choice_at (floor_line both) p) in
      let first : sends (take i (take j tape))
      ≡ sends (take i tape) = ap sends (take-take i j tape (place-mono tape
      (choice_at (floor_line floor) p) (choice_at (floor_line both) p) (above p))) in
      omega (arith, first, sends_take (take j tape) i)

  module _ (fit : IsFitUnordered history) where
    received_both : (q : ℕ) (m : MsgName) → IsSentTo history q m → m.number < lost_sends both m.from
        → IsReceivedBefore history (floor_line both) q m
    received_both q m to below = elim (cases_lt m.number (lost_sends floor m.from)) [
      | inl gone ↦ received_above floor history (floor_line both) above fit is q m
          (is.received q m to gone)
      | inr left ↦
          let kept : is_left floor m ≡ true = le-leb (lost_sends floor m.from) m.number left in
          let there : IsSentTo (cut_history floor history) q
          (cut_name floor m) = record {
            held = held_cut floor history m kept ∙ to.held;
            to_is =
                addressed_cut floor history m left ∙ to.to_is;
          } in
          let got : IsReceivedBefore (cut_history floor history) (floor_line later) q
          (cut_name floor m) = next.received q (cut_name floor m) there
          (omega (arith, sends_most floor later m.from)) in
          let l = received_left floor q 0 (floor_check floor q)
          (events_before history (floor_line both) q) (cut_name floor m)
          (subst (λ (es : List Event). Contains es (Recv (cut_name floor m))) (fronts q) got) in
          let same : l.whole ≡ m = sym (name_back floor l.whole l.is) ∙ sym
          (ap (whole_name floor) l.name) ∙ name_back floor m kept in
          subst (λ (v : MsgName). Contains (events_before history (floor_line both) q) (Recv v))
          same l.among
    ]

    -- a floor of what is left is a floor of the whole
    pub floor_both : IsFloor history both
    floor_both = record {
      line = record {
        length_is = length-map both.checks (λ c. AtCheck c) ∙ count_both;
        exist = λ p. subst (HasChoice (tape_at history p)) (sym (floor_at both p)) (has p);
      };
      consistent = consistent_whole floor history (floor_line both) above fit is
          (subst (IsConsistent (cut_history floor history)) (sym cut_both_line) next.consistent);
      sent = λ p. omega (
        arith,
        sends_most floor later p,
        is.sent p,
        more_sends p,
        next.sent p,
        ap sends
            (fronts p),
        sends_left floor p 0 (floor_check floor p)
            (events_before history (floor_line both) p),
      );
      received = received_both;
    }

  -- and it survives where it does there
  pub survives_both : (marks : MarksView) → FloorSurvives history marks floor → FloorSurvives
      (cut_history floor history) (cut_marks floor marks) later → FloorSurvives history marks both
  survives_both marks stays live p h =
      let exists : floor_check floor p ≤ checks (tape_at history p) = subst
      (HasChoice (tape_at history p)) (floor_at floor p) (is.line.exist p) in
      sym (survives_cut floor history marks p [] exists (stays p h) (AtCheck (floor_check both p))
      (no_less p))
      ∙ ap (λ c. survives (cut_history floor history) (cut_marks floor marks) [] p (AtCheck c))
      (later_at p)
      ∙ live p (omega (arith, length_history floor history))

  module _ (rising : floor.round ≤ later.round) where
    abbrev IsOld : ℕ → Type 0
    IsOld round = round ≤ later.round

    old_check : (state : List ℕ) (round : Option ℕ) (xs es : List Event)
        → (All IsOld (rounds_checked xs) → All IsOld (rounds_checked es))
        → All IsOld (rounds_checked (Check state (cut_round floor.round round) ∷ xs))
        → All IsOld (rounds_checked (Check state round ∷ es))
    old_check state None xs es rest all = rest all
    old_check state (Some round) xs es rest all = elim (nat_lt floor.round round) as
        (λ b. b ≡ nat_lt floor.round round → All IsOld (rounds_checked
        (Check state (cond b (Some round) None) ∷ xs)) → All IsOld (round ∷ rounds_checked es)) [
          | true ↦ λ e d. All-cons IsOld round (rounds_checked es) (All-head IsOld round
              (rounds_checked xs) d) (rest (All-tail IsOld round (rounds_checked xs) d))
          | false ↦ λ e d.
              let low : round ≤ floor.round = ltb-false floor.round round (sym e) in
              All-cons IsOld round (rounds_checked es) (omega arith) (rest d)
        ] refl all

    rounds_old : (p k skip : ℕ) (es : List Event) → AreOld floor p skip es
        → All IsOld (rounds_checked (cut_events floor p k skip es)) → All IsOld (rounds_checked es)
    rounds_old p k skip [] old all = all
    rounds_old p k skip (Send to inc body ∷ es) old all =
        elim (nat_le (lost_sends floor p) k) as
        (λ b. All IsOld (rounds_checked (cond b (Send to inc body ∷ cut_events floor p (suc k)
        skip es) (cut_events floor p (suc k) skip es))) → All IsOld (rounds_checked es)) [
          | true ↦ rounds_old p (suc k) skip es (old_send floor p to inc body es skip old)
          | false ↦ rounds_old p (suc k) skip es (old_send floor p to inc body es skip old)
        ] all
    rounds_old p k skip (Recv m ∷ es) old all =
        elim (is_left floor m) as
        (λ b. All IsOld (rounds_checked (cond b (Recv (cut_name floor m) ∷ cut_events floor p k
        skip es) (cut_events floor p k skip es))) → All IsOld (rounds_checked es)) [
          | true ↦ rounds_old p k skip es (old_recv floor p m es skip old)
          | false ↦ rounds_old p k skip es (old_recv floor p m es skip old)
        ] all
    rounds_old p k zero (Check state round ∷ es) old all = old_check state round
        (cut_events floor p k zero es) es (rounds_old p k zero es (old_none floor p es)) all
    rounds_old p k (suc zero) (Check state round ∷ es) old all = old_check state round
        (cut_events floor p k zero es) es (rounds_old p k zero es (old_none floor p es)) all
    rounds_old p k (suc (suc skip)) (Check state None ∷ es) old all =
        rounds_old p k (suc skip) es old all
    rounds_old p k (suc (suc skip)) (Check state (Some round) ∷ es) old all =
        let older = λ (r : ℕ). r ≤ floor.round in
        let rounds : List ℕ = rounds_checked (front es (AtCheck (suc skip))) in
        let low : round ≤ floor.round = All-head older round rounds old in
        All-cons IsOld round (rounds_checked es) (omega arith)
        (rounds_old p k (suc skip) es (All-tail older round rounds old) all)
    rounds_old p k skip (Mark from round ∷ es) old all =
        elim (nat_lt floor.round round) as
        (λ b. All IsOld (rounds_checked (cond b (Mark from round ∷ cut_events floor p k skip es)
        (cut_events floor p k skip es))) → All IsOld (rounds_checked es)) [
          | true ↦ rounds_old p k skip es (old_mark floor p from round es skip old)
          | false ↦ rounds_old p k skip es (old_mark floor p from round es skip old)
        ] all

    -- the rounds of the checks before it are old where those before both floors are
    pub rounds_both : HasOldRounds history floor → HasOldRounds (cut_history floor history) later
        → HasOldRounds history both
    rounds_both old late p =
        let tape : List Event = tape_at history p in
        let es : List Event = events_before history (floor_line both) p in
        let older = λ (r : ℕ). r ≤ floor.round in
        let first : front es (AtCheck (floor_check floor p))
        ≡ events_before history (floor_line floor) p =
        ap (λ (c : Choice). front (front tape c) (AtCheck (floor_check floor p))) (floor_at both p)
        ∙ front_kept tape (AtCheck (floor_check both p)) (floor_check floor p)
        (le-leb (floor_check floor p) (floor_check both p) (no_less p))
        ∙ ap (front tape) (sym (floor_at floor p)) in
        rounds_old p 0 (floor_check floor p) es
        (subst (λ (v : List Event). All older (rounds_checked v)) (sym first) (old p))
        (subst (λ (v : List Event). All IsOld (rounds_checked v)) (fronts p) (late p))

module _ (floor later : Floor) (history : List Process) (marks : MarksView) (failed : List Bool)
    (fit : IsFitUnordered history) (is : IsFloor history floor)
    (stays : FloorSurvives history marks floor) where
  -- who has left its initial state does not come back to it at a latest line
  pub later_stays : IsLatest (cut_history floor history) (cut_marks floor marks) failed (floor_line
      later) → (p : ℕ) → p < length history → 1 ≤ floor_check floor p → 1 ≤ floor_check later p
  later_stays latest p h left =
      let low : floor_check floor p - lost_checks floor p ≤ floor_check later p = subst
      (IsNoLater (cut_choice floor p (AtCheck (floor_check floor p)))) (floor_at later p)
      (floor_below floor history marks failed fit is stays (floor_line later) latest p) in
      omega arith
