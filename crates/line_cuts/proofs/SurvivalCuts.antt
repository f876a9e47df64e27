-- The checks, marks and bars of what is left, and which choices survive there.
use Rattle.std.proofs.Common.{◌≡◌, ◌≢◌, ℕ, zero, suc, ◌+◌, ◌-◌, ◌<◌, ◌≤◌, Bool, true, false, not}
use Rattle.std.proofs.Common.{◌&&◌, ◌||◌, cond, leb, eqb, List, [], ◌∷◌, length, map, Option, Some}
use Rattle.std.proofs.Common.{None, refl, sym, ap, ◌∙◌, subst, arith, inl, inr}
use Rattle.std.specs.Prelude.{nat_le, nat_lt, ◌==◌, IsTrue}
use Rattle.std.specs.List.{filter, list_any}
use Rattle.std.proofs.lemmas.Bool.{le-leb, ltb-true, ltb-false, eq-eqb, cases_lt, cases_eq}
use Rattle.std.proofs.lemmas.Bool.{false≢true}
use Rattle.std.proofs.lemmas.Bool.Decides.{nat_tests}
use Rattle.std.proofs.lemmas.List.{get_or_past}
use Rattle.std.proofs.lemmas.List.FromFn.{length-map-range_with_len, get_or-map-range_with_len}
use Rattle.line_names.specs.declared.choices.Choice.{Choice}
use Rattle.line_names.specs.declared.choices.Choice.TheVariants.{Check as AtCheck, Now}
use Rattle.line_names.specs.Order.{IsNoLater}
use Rattle.line_names.specs.Sets.{is_member}
use Rattle.line_tape.specs.declared.events.Event.{Event}
use Rattle.line_tape.specs.declared.events.Event.TheVariants.{Send, Recv, Check, Mark}
use Rattle.line_tape.specs.Event.{checks}
use Rattle.line_tape.specs.History.{Process, tape_at}
use Rattle.line_tape.specs.Survival.{survives, is_allowed, is_damaged}
use Rattle.line_tape.specs.Views.{MarksView, bar_at, damaged_at}
use Rattle.line_cuts.specs.Cuts.{Floor, lost_sends, floor_check, lost_checks, is_left, cut_name}
use Rattle.line_cuts.specs.Cuts.{cut_events, cut_history, cut_choice, cut_bar, cut_marks}
use Rattle.line_cuts.proofs.ConsistentCuts.{tape_cut}

-- the checks that are left, where the floor is one of the tape's
pub checks_left : (floor : Floor) (p k skip : ℕ) (es : List Event) → skip ≤ checks es
    → checks (cut_events floor p k skip es) + (skip - 1) ≡ checks es
checks_left floor p k zero [] h = omega arith
checks_left floor p k (suc skip) [] h = absurd (omega arith)
checks_left floor p k skip (Send to inc body ∷ es) h =
    elim (nat_le (lost_sends floor p) k) as (λ b. checks (cond b (Send to inc body ∷ cut_events
    floor p (suc k) skip es) (cut_events floor p (suc k) skip es)) + (skip - 1) ≡ checks es) [
      | true ↦ checks_left floor p (suc k) skip es h
      | false ↦ checks_left floor p (suc k) skip es h
    ]
checks_left floor p k skip (Recv m ∷ es) h =
    elim (is_left floor m) as (λ b. checks (cond b (Recv (cut_name floor m)
    ∷ cut_events floor p k skip es) (cut_events floor p k skip es)) + (skip - 1) ≡ checks es) [
      | true ↦ checks_left floor p k skip es h
      | false ↦ checks_left floor p k skip es h
    ]
checks_left floor p k zero (Check state round ∷ es) h =
    omega (arith, checks_left floor p k zero es (omega arith))
checks_left floor p k (suc zero) (Check state round ∷ es) h =
    omega (arith, checks_left floor p k zero es (omega arith))
checks_left floor p k (suc (suc skip)) (Check state round ∷ es) h =
    omega (arith, checks_left floor p k (suc skip) es (omega arith))
checks_left floor p k skip (Mark from round ∷ es) h =
    elim (nat_lt floor.round round) as (λ b. checks (cond b (Mark from round
    ∷ cut_events floor p k skip es) (cut_events floor p k skip es)) + (skip - 1) ≡ checks es) [
      | true ↦ checks_left floor p k skip es h
      | false ↦ checks_left floor p k skip es h
    ]

-- orders and equalities of shifted numbers
pub le_shift : (a b n : ℕ) → n < a → leb (a - n) (b - n) ≡ leb a b
le_shift a b n h = elim (cases_lt b a) [
  | inl past ↦
      let here : leb a b ≡ false = grind (arith, nat_tests) in
      let there : leb (a - n) (b - n) ≡ false = grind (arith, nat_tests) in
      there ∙ sym here
  | inr within ↦ le-leb (a - n) (b - n) (omega arith) ∙ sym (le-leb a b within)
]

pub eq_shift : (a b n : ℕ) → n < a → n < b → eqb (a - n) (b - n) ≡ eqb a b
eq_shift a b n h k = elim (cases_eq a b) [
  | inl same ↦
      let shifted : a - n ≡ b - n = omega arith in
      eq-eqb (a - n) (b - n) shifted ∙ sym (eq-eqb a b same)
  | inr apart ↦
      let shifted : a - n ≢ b - n = λ e. apart (omega arith) in
      let here : eqb a b ≡ false = grind (arith, nat_tests) in
      let there : eqb (a - n) (b - n) ≡ false = grind (arith, nat_tests) in
      there ∙ sym here
]

-- the marks of the later checks
pub marked_left : (k c : ℕ) (xs : List ℕ) → k < c → list_any (λ d. d == (c - (k - 1)))
    (map (λ d. d - (k - 1)) (filter (λ d. nat_lt k d) xs)) ≡ list_any (λ d. d == c) xs
marked_left k c [] h = refl
marked_left k c (x ∷ xs) h =
    elim (nat_lt k x) as
    (λ b. b ≡ nat_lt k x
    → list_any (λ d. d == (c - (k - 1))) (map (λ d. d - (k - 1)) (cond b (x ∷ filter (λ d.
    nat_lt k d) xs) (filter (λ d. nat_lt k d) xs))) ≡ ((x == c) || list_any (λ d. d == c) xs)) [
      | true ↦ λ e.
          let later : k < x = ltb-true k x (sym e) in
          let same : eqb (x - (k - 1)) (c - (k - 1))
          ≡ eqb x c = eq_shift x c (k - 1) (omega arith) (omega arith) in
          ap (λ (b : Bool). b || list_any (λ d. d == (c - (k - 1))) (map (λ d. d - (k - 1)) (filter
          (λ d. nat_lt k d) xs))) same ∙ ap (λ (b : Bool). (x == c) || b) (marked_left k c xs h)
      | false ↦ λ e.
          let early : x ≤ k = ltb-false k x (sym e) in
          let other : eqb x c ≡ false = grind (arith, nat_tests) in
          marked_left k c xs h ∙ sym (ap (λ (b : Bool). b || list_any (λ d. d == c) xs) other)
    ] refl

-- no check up to the floor is marked there
marked_none : (k : ℕ) (xs : List ℕ) → list_any (λ d. d == (k - (k - 1)))
    (map (λ d. d - (k - 1)) (filter (λ d. nat_lt k d) xs)) ≡ false
marked_none k [] = refl
marked_none k (x ∷ xs) =
    elim (nat_lt k x) as (λ b. b ≡ nat_lt k x → list_any (λ d. d == (k - (k - 1))) (map (λ d. d - (k
    - 1)) (cond b (x ∷ filter (λ d. nat_lt k d) xs) (filter (λ d. nat_lt k d) xs))) ≡ false) [
      | true ↦ λ e.
          let later : k < x = ltb-true k x (sym e) in
          let other : eqb (x - (k - 1)) (k - (k - 1)) ≡ false = grind (arith, nat_tests) in
          ap (λ (b : Bool). b || list_any (λ d. d == (k - (k - 1)))
          (map (λ d. d - (k - 1)) (filter (λ d. nat_lt k d) xs))) other ∙ marked_none k xs
      | false ↦ λ e. marked_none k xs
    ] refl

pub undamaged : (x y z : Bool) → (x && not y && z) ≡ true → y ≡ false
undamaged x false z e = refl
undamaged true true z e = absurd (false≢true e)
undamaged false true z e = absurd (false≢true e)

module _ (floor : Floor) (history : List Process) (marks : MarksView) (p : ℕ) where
  pub damaged_cut : damaged_at (cut_marks floor marks) p ≡ map (λ d. d - lost_checks floor p)
      (filter (λ d. nat_lt (floor_check floor p) d) (damaged_at marks p))
  damaged_cut = elim (cases_lt p (length marks.damaged)) [
    | inl within ↦ get_or-map-range_with_len
        (λ q. map (λ d. d - lost_checks floor q) (filter (λ d. nat_lt (floor_check floor q) d)
        (damaged_at marks q))) 0 (length marks.damaged) p p [] within (omega arith)
    | inr past ↦
        let none : damaged_at marks p ≡ [] = get_or_past marks.damaged p [] past in
        get_or_past (cut_marks floor marks).damaged p []
        (omega (
          arith,
          length-map-range_with_len
              (λ q. map (λ d. d - lost_checks floor q) (filter (λ d. nat_lt (floor_check floor q) d)
              (damaged_at marks q))) 0 (length marks.damaged),
        ))
        ∙ sym (ap (λ (xs : List ℕ). map (λ d. d - lost_checks floor p)
        (filter (λ d. nat_lt (floor_check floor p) d) xs)) none)
  ]

  pub bar_cut : bar_at (cut_marks floor marks) p ≡ cut_bar (lost_checks floor p) (bar_at marks p)
  bar_cut = elim (cases_lt p (length marks.bars)) [
    | inl within ↦ get_or-map-range_with_len (λ q. cut_bar (lost_checks floor q) (bar_at marks q)) 0
        (length marks.bars) p p None within (omega arith)
    | inr past ↦
        let none : bar_at marks p ≡ None = get_or_past marks.bars p None past in
        get_or_past (cut_marks floor marks).bars p None (omega (
          arith,
          length-map-range_with_len
              (λ q. cut_bar (lost_checks floor q) (bar_at marks q)) 0 (length marks.bars),
        ))
        ∙ sym (ap (cut_bar (lost_checks floor p)) none)
  ]

  allowed_cut : (bar : Option ℕ) (c : ℕ) → lost_checks floor p < c → is_allowed (cut_bar
      (lost_checks floor p) bar) (AtCheck (c - lost_checks floor p)) ≡ is_allowed bar (AtCheck c)
  allowed_cut None c h = refl
  allowed_cut (Some bar) c h = le_shift c bar (lost_checks floor p) h

  allowed_now : (bar : Option ℕ)
      → is_allowed (cut_bar (lost_checks floor p) bar) Now ≡ is_allowed bar Now
  allowed_now None = refl
  allowed_now (Some bar) = refl

  -- a choice from the floor on survives there where it does in the whole
  module _ (failed : List Bool) (exists : floor_check floor p ≤ checks (tape_at history p))
      (stays : IsTrue (survives history marks failed p (AtCheck (floor_check floor p)))) where
    later_count : (c : ℕ) → lost_checks floor p < c → leb (c - lost_checks floor p)
        (checks (tape_at (cut_history floor history) p)) ≡ leb c (checks (tape_at history p))
    later_count c h =
        let count : checks (tape_at (cut_history floor history) p)
        ≡ checks (tape_at history p) - lost_checks floor p = omega (
          arith,
          ap checks (tape_cut floor history p),
          checks_left floor p 0
              (floor_check floor p) (tape_at history p) exists,
        ) in
        ap (leb (c - lost_checks floor p)) count ∙ le_shift c (checks (tape_at history p))
        (lost_checks floor p) h

    survivor_undamaged : (c : ℕ) → survives history marks failed p (AtCheck (suc c)) ≡ true
        → is_damaged marks p (suc c) ≡ false
    survivor_undamaged c h = undamaged (leb (suc c) (checks (tape_at history p)))
        (is_damaged marks p (suc c)) (is_allowed (bar_at marks p) (AtCheck (suc c))) h

    damaged_same : (c d : ℕ) → d ≡ c - lost_checks floor p → floor_check floor p ≤ c
        → lost_checks floor p < c → is_damaged (cut_marks floor marks) p d ≡ is_damaged marks p c
    damaged_same zero d is above past = absurd (omega arith)
    damaged_same (suc c) d is above past = elim (cases_eq (suc c) (floor_check floor p)) [
      | inl here ↦
          let index : d ≡ floor_check floor p - (floor_check floor p - 1) = omega arith in
          let none : is_damaged marks p (suc c) ≡ false = survivor_undamaged c
          (subst (λ v. survives history marks failed p (AtCheck v) ≡ true) (sym here) stays) in
          ap (λ xs. list_any (λ e. e == d) xs) damaged_cut
          ∙ ap (λ v. list_any (λ e. e == v) (map (λ e. e - lost_checks floor p)
          (filter (λ e. nat_lt (floor_check floor p) e) (damaged_at marks p)))) index
          ∙ marked_none (floor_check floor p) (damaged_at marks p)
          ∙ sym none
      | inr apart ↦
          let later : floor_check floor p < suc c = omega arith in
          ap (λ xs. list_any (λ e. e == d) xs) damaged_cut
          ∙ ap (λ v. list_any (λ e. e == v) (map (λ e. e - lost_checks floor p)
          (filter (λ e. nat_lt (floor_check floor p) e) (damaged_at marks p)))) is
          ∙ marked_left (floor_check floor p) (suc c) (damaged_at marks p) later
    ]

    survives_at : (c d : ℕ) → d ≡ c - lost_checks floor p → floor_check floor p ≤ c
        → lost_checks floor p < c
        → (leb d (checks (tape_at (cut_history floor history) p)) && not (is_damaged (cut_marks
        floor marks) p d) && is_allowed (bar_at (cut_marks floor marks) p) (AtCheck d))
        ≡ (leb c (checks (tape_at history p)) && not (is_damaged marks p c)
        && is_allowed (bar_at marks p) (AtCheck c))
    survives_at c d is above past =
        let count : leb d (checks (tape_at (cut_history floor history) p))
        ≡ leb c (checks (tape_at history p)) = ap
        (λ v. leb v (checks (tape_at (cut_history floor history) p))) is ∙ later_count c past in
        let allowed : is_allowed (bar_at (cut_marks floor marks) p) (AtCheck d)
        ≡ is_allowed (bar_at marks p) (AtCheck c) = ap
        (λ bar. is_allowed bar (AtCheck d)) bar_cut ∙ ap (λ v. is_allowed (cut_bar (lost_checks
        floor p) (bar_at marks p)) (AtCheck v)) is ∙ allowed_cut (bar_at marks p) c past in
        ap (λ b. b && not (is_damaged (cut_marks floor marks) p d)
        && is_allowed (bar_at (cut_marks floor marks) p) (AtCheck d)) count
        ∙ ap (λ b. leb c (checks (tape_at history p)) && not b && is_allowed
        (bar_at (cut_marks floor marks) p) (AtCheck d)) (damaged_same c d is above past)
        ∙ ap (λ b. leb c (checks (tape_at history p)) && not (is_damaged marks p c) && b) allowed

    survives_check : (c d : ℕ) → d ≡ c - lost_checks floor p → floor_check floor p ≤ c
        → survives (cut_history floor history) (cut_marks floor marks) failed p (AtCheck d)
        ≡ survives history marks failed p (AtCheck c)
    survives_check zero zero is above = refl
    survives_check zero (suc d) is above = absurd (omega arith)
    survives_check (suc c) zero is above = absurd (omega arith)
    survives_check (suc c) (suc d) is above = survives_at (suc c) (suc d) is above (omega arith)

    pub survives_cut : (choice : Choice) → IsNoLater (AtCheck (floor_check floor p)) choice
        → survives (cut_history floor history) (cut_marks floor marks) failed p
        (cut_choice floor p choice) ≡ survives history marks failed p choice
    survives_cut (AtCheck c) above = survives_check c (c - lost_checks floor p) refl above
    survives_cut Now above = ap (λ b. not (is_member failed p) && b)
        (ap (λ bar. is_allowed bar Now) bar_cut ∙ allowed_now (bar_at marks p))
