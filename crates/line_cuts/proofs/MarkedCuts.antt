-- The marks and bars that are left, and that they are on checks that are left.
use Rattle.std.proofs.Common.{◌≡◌, ◌≢◌, ℕ, zero, suc, ◌+◌, ◌-◌, ◌<◌, ◌≤◌, Bool, true, false, cond}
use Rattle.std.proofs.Common.{eqb, List, [], ◌∷◌, length, map, get_or, inl, inr, Option, Some, None}
use Rattle.std.proofs.Common.{refl, sym, ap, ◌∙◌, subst, arith}
use Rattle.std.specs.Prelude.{◌&&◌, ◌||◌, ◌==◌, nat_le, nat_lt, IfSome}
use Rattle.std.specs.List.{All, list_any, filter}
use Rattle.std.proofs.lemmas.Bool.{cases_lt, cases_eq, cases_Bool, le-leb, lt-leb, lt-ltb, le-ltb}
use Rattle.std.proofs.lemmas.Bool.{ltb-true, ltb-false, eq-eqb, ne_eqb, false≢true}
use Rattle.std.proofs.lemmas.List.{get_or_past}
use Rattle.std.proofs.lemmas.List.FromFn.{length-map-range_with_len}
use Rattle.line_tape.specs.declared.events.Event.{Event}
use Rattle.line_tape.specs.Event.{checks}
use Rattle.line_tape.specs.History.{Process, tape_at}
use Rattle.line_tape.specs.Survival.{is_damaged}
use Rattle.line_tape.specs.Views.{MarksView, bar_at, damaged_at}
use Rattle.line_catalogue.specs.Damage.{AreOnChecks}
use Rattle.line_catalogue.proofs.DamageLemmas.{found_within}
use Rattle.line_cuts.specs.Cuts.{Floor, floor_check, lost_checks, cut_bar, cut_history, cut_marks}
use Rattle.line_cuts.proofs.ConsistentCuts.{tape_cut}
use Rattle.line_cuts.proofs.SurvivalCuts.{checks_left, damaged_cut, bar_cut}
use Rattle.line_cuts.specs.Marks.{is_left_damaged, AreSameMarks}

-- a mark there is one of a check after the floor
pub left_marks : (f x y : ℕ) (ds : List ℕ) → y ≡ x + (f - 1) → list_any (λ d. d == x) (map
    (λ d. d - (f - 1)) (filter (λ d. nat_lt f d) ds)) ≡ (nat_lt f y && list_any (λ d. d == y) ds)
left_marks f x y [] e =
    elim (nat_lt f y) as (λ b. false ≡ (b && false)) [ true ↦ refl | false ↦ refl ]
left_marks f x y (d ∷ ds) e =
    let ih = left_marks f x y ds e in
    elim (nat_lt f d) as
    (λ b. b ≡ nat_lt f d
    → list_any (λ d. d == x) (map (λ d. d - (f - 1)) (cond b (d ∷ filter (λ d. nat_lt f d) ds)
    (filter (λ d. nat_lt f d) ds))) ≡ (nat_lt f y && ((d == y) || list_any (λ d. d == y) ds))) [
      | true ↦ λ is.
          let later : f < d = ltb-true f d (sym is) in
          elim (cases_eq d y) [
            | inl same ↦
                let here : eqb (d - (f - 1)) x ≡ true = eq-eqb (d - (f - 1)) x (omega arith) in
                let there : eqb d y ≡ true = eq-eqb d y same in
                let above : nat_lt f y ≡ true = lt-ltb f y (omega arith) in
                ap (λ (b : Bool). b || list_any (λ d. d == x)
                (map (λ d. d - (f - 1)) (filter (λ d. nat_lt f d) ds))) here
                ∙ sym (ap (λ (b : Bool). b && ((d == y) || list_any (λ d. d == y) ds)) above ∙ ap
                (λ (b : Bool). b || list_any (λ d. d == y) ds) there)
            | inr apart ↦
                let here : eqb (d - (f - 1)) x
                ≡ false = ne_eqb (d - (f - 1)) x (λ q. apart (omega arith)) in
                let there : eqb d y ≡ false = ne_eqb d y apart in
                ap (λ (b : Bool). b || list_any (λ d. d == x)
                (map (λ d. d - (f - 1)) (filter (λ d. nat_lt f d) ds))) here
                ∙ ih ∙ sym (ap (λ (b : Bool). nat_lt f y && (b || list_any (λ d. d == y) ds)) there)
          ]
      | false ↦ λ is.
          let early : d ≤ f = ltb-false f d (sym is) in
          ih ∙ elim (cases_lt f y) [
            | inl above ↦
                let there : eqb d y ≡ false = ne_eqb d y (λ q. omega arith) in
                sym (ap (λ (b : Bool). nat_lt f y && (b || list_any (λ d. d == y) ds)) there)
            | inr below ↦
                let low : nat_lt f y ≡ false = le-ltb f y below in
                ap (λ (b : Bool). b && list_any (λ d. d == y) ds) low ∙ sym
                (ap (λ (b : Bool). b && ((d == y) || list_any (λ d. d == y) ds)) low)
          ]
    ] refl

-- which checks are damaged there
pub damaged_left : (floor : Floor) (marks : MarksView) (p c : ℕ)
    → is_damaged (cut_marks floor marks) p c ≡ (nat_lt (floor_check floor p)
    (c + lost_checks floor p) && is_damaged marks p (c + lost_checks floor p))
damaged_left floor marks p c =
    ap (λ (ds : List ℕ). list_any (λ d. d == c) ds) (damaged_cut floor [] marks p)
    ∙ left_marks (floor_check floor p) c (c + lost_checks floor p) (damaged_at marks p) refl

and_parts : (a b : Bool) → (a && b) ≡ true → (a ≡ true) × (b ≡ true)
and_parts true b e = (refl, e)
and_parts false b e = absurd (false≢true e)

-- an element of a list is found there
any_at : (ds : List ℕ) (k e : ℕ) → k < length ds → list_any (λ d. d == get_or ds k e) ds ≡ true
any_at [] k e h = absurd (omega arith)
any_at (d ∷ ds) zero e h = ap (λ (b : Bool). b || list_any (λ x. x == d) ds) (eq-eqb d d refl)
any_at (d ∷ ds) (suc k) e h =
    elim (d == get_or ds k e) as (λ b. (b || list_any (λ x. x == get_or ds k e) ds) ≡ true) [
      | true ↦ refl
      | false ↦ any_at ds k e (omega arith)
    ]

-- the checks that are left of a tape
pub checks_cut : (floor : Floor) (history : List Process) (p : ℕ)
    → floor_check floor p ≤ checks (tape_at history p) → checks
    (tape_at (cut_history floor history) p) + lost_checks floor p ≡ checks (tape_at history p)
checks_cut floor history p h =
    ap (λ (es : List Event). checks es + lost_checks floor p) (tape_cut floor history p)
    ∙ checks_left floor p 0 (floor_check floor p) (tape_at history p) h

module _ (floor : Floor) (history : List Process) (marks new : MarksView)
    (on : AreOnChecks history marks) (same : AreSameMarks new (cut_marks floor marks)) where
  on_mark : (p c : ℕ) → is_damaged new p c ≡ true
      → c ≤ checks (tape_at (cut_history floor history) p)
  on_mark p c found =
      let both = and_parts (nat_lt (floor_check floor p) (c + lost_checks floor p))
      (is_damaged marks p (c + lost_checks floor p))
      (sym (damaged_left floor marks p c) ∙ sym (same.damaged p c) ∙ found) in
      let above : floor_check floor p < c + lost_checks floor p = ltb-true (floor_check floor p)
      (c + lost_checks floor p) both.0 in
      let within : c + lost_checks floor p ≤ checks (tape_at history p) = found_within (checks
      (tape_at history p)) (c + lost_checks floor p) (damaged_at marks p) (on.each p) both.1 in
      omega (arith, checks_cut floor history p (omega arith))

  on_bar : (p : ℕ) (bar : Option ℕ) → IfSome bar (λ c. c ≤ checks (tape_at history p)) → IfSome
      (cut_bar (lost_checks floor p) bar) (λ c. c ≤ checks (tape_at (cut_history floor history) p))
  on_bar p None h = tt
  on_bar p (Some bar) h = elim (cases_lt (checks (tape_at history p)) (floor_check floor p)) [
    | inl past ↦ omega arith
    | inr within ↦ omega (arith, checks_cut floor history p within)
  ]

  pub on_checks_cut : AreOnChecks (cut_history floor history) new
  on_checks_cut = record {
    each = λ p k d within. on_mark p (get_or (damaged_at new p) k d)
        (any_at (damaged_at new p) k d within);
    bars = λ p. subst
        (λ (bar : Option ℕ). IfSome bar (λ c. c ≤ checks (tape_at (cut_history floor history) p)))
        (sym (ap (λ (bars : List (Option ℕ)). get_or bars p None) same.bars ∙ bar_cut floor history
        marks p))
        (on_bar p (bar_at marks p) (on.bars p));
  }

-- one check more
module _ (marks : MarksView) (floor : Floor) (p last : ℕ) where
  -- at the floor none is told of
  pub left_none : (c : ℕ) → last ≤ floor_check floor p
      → is_left_damaged marks floor p last c ≡ false
  left_none c h = elim (cases_lt (floor_check floor p) (c + lost_checks floor p)) [
    | inl above ↦
        let past : nat_le (c + lost_checks floor p) last
        ≡ false = lt-leb (c + lost_checks floor p) last (omega arith) in
        ap (λ (b : Bool). nat_lt (floor_check floor p) (c + lost_checks floor p)
        && (b && is_damaged marks p (c + lost_checks floor p))) past
        ∙ elim (nat_lt (floor_check floor p) (c + lost_checks floor p)) as
        (λ b. (b && false) ≡ false) [ true ↦ refl | false ↦ refl ]
    | inr below ↦ ap (λ (b : Bool). b && (nat_le (c + lost_checks floor p) last && is_damaged marks
        p (c + lost_checks floor p))) (le-ltb (floor_check floor p) (c + lost_checks floor p) below)
  ]

  -- nor of the next check
  pub left_not_yet : (c : ℕ) → last < c + lost_checks floor p
      → is_left_damaged marks floor p last c ≡ false
  left_not_yet c h =
      let past : nat_le (c + lost_checks floor p) last
      ≡ false = lt-leb (c + lost_checks floor p) last h in
      ap (λ (b : Bool). nat_lt (floor_check floor p) (c + lost_checks floor p)
      && (b && is_damaged marks p (c + lost_checks floor p))) past
      ∙ elim (nat_lt (floor_check floor p) (c + lost_checks floor p)) as
      (λ b. (b && false) ≡ false) [ true ↦ refl | false ↦ refl ]

  -- which is told of then
  pub left_here : (c : ℕ) → floor_check floor p ≤ last → c + lost_checks floor p ≡ last + 1
      → is_left_damaged marks floor p (last + 1) c ≡ is_damaged marks p (last + 1)
  left_here c h e =
      ap (λ (b : Bool). b
      && (nat_le (c + lost_checks floor p) (last + 1) && is_damaged marks p (c + lost_checks
      floor p))) (lt-ltb (floor_check floor p) (c + lost_checks floor p) (omega arith))
      ∙ ap (λ (b : Bool). b && is_damaged marks p (c + lost_checks floor p))
      (le-leb (c + lost_checks floor p) (last + 1) (omega arith))
      ∙ ap (is_damaged marks p) e

  -- and of the others as before
  pub left_other : (c : ℕ) → c + lost_checks floor p ≢ last + 1
      → is_left_damaged marks floor p (last + 1) c ≡ is_left_damaged marks floor p last c
  left_other c apart =
      let test : nat_le (c + lost_checks floor p) (last + 1)
      ≡ nat_le (c + lost_checks floor p) last = elim (cases_lt last (c + lost_checks floor p)) [
        | inl past ↦ lt-leb (c + lost_checks floor p) (last + 1) (omega arith) ∙ sym
            (lt-leb (c + lost_checks floor p) last past)
        | inr within ↦ le-leb (c + lost_checks floor p) (last + 1) (omega arith) ∙ sym
            (le-leb (c + lost_checks floor p) last within)
      ] in
      ap (λ (b : Bool). nat_lt (floor_check floor p) (c + lost_checks floor p)
      && (b && is_damaged marks p (c + lost_checks floor p))) test

  -- once the latest is told of, all are
  pub left_all : (c : ℕ) → All (λ d. d ≤ last) (damaged_at marks p)
      → is_left_damaged marks floor p last c ≡ is_damaged (cut_marks floor marks) p c
  left_all c all =
      let y : ℕ = c + lost_checks floor p in
      let later : (nat_le y last && is_damaged marks p y)
      ≡ is_damaged marks p y = elim (cases_lt last y) [
        | inl past ↦ elim (cases_Bool (is_damaged marks p y)) [
          | inl found ↦ absurd (omega (arith, found_within last y (damaged_at marks p) all found))
          | inr none ↦ ap (λ (b : Bool). b && is_damaged marks p y) (lt-leb y last past) ∙ sym none
        ]
        | inr within ↦ ap (λ (b : Bool). b && is_damaged marks p y) (le-leb y last within)
      ] in
      ap (λ (b : Bool). nat_lt (floor_check floor p) y && b) later ∙ sym
      (damaged_left floor marks p c)

-- a process without marks has none there
pub none_left : (marks : MarksView) (floor : Floor) (p c : ℕ) → damaged_at marks p ≡ []
    → is_damaged (cut_marks floor marks) p c ≡ false
none_left marks floor p c none =
    damaged_left floor marks p c
    ∙ ap (λ (ds : List ℕ). nat_lt (floor_check floor p) (c + lost_checks floor p)
    && list_any (λ d. d == (c + lost_checks floor p)) ds) none
    ∙ elim (nat_lt (floor_check floor p) (c + lost_checks floor p)) as
    (λ b. (b && false) ≡ false) [ true ↦ refl | false ↦ refl ]

-- a process that there isn't has none
pub none_past : (marks : MarksView) (p c : ℕ) → length marks.damaged ≤ p
    → is_damaged marks p c ≡ false
none_past marks p c past =
    ap (λ (ds : List ℕ). list_any (λ d. d == c) ds) (get_or_past marks.damaged p [] past)

-- lists of bars with the same at each place are the same
pub same_bars : (xs ys : List (Option ℕ)) → length xs ≡ length ys
    → ((p : ℕ) → p < length xs → get_or xs p None ≡ get_or ys p None) → xs ≡ ys
same_bars [] [] long same = refl
same_bars [] (y ∷ ys) long same = absurd (omega arith)
same_bars (x ∷ xs) [] long same = absurd (omega arith)
same_bars (x ∷ xs) (y ∷ ys) long same =
    ap (λ (v : Option ℕ). v ∷ xs) (same 0 (omega arith)) ∙ ap (λ (v : List (Option ℕ)). y ∷ v)
    (same_bars xs ys (omega arith) (λ p h. same (suc p) (omega arith)))

-- how many there are
pub length_damaged : (floor : Floor) (marks : MarksView)
    → length (cut_marks floor marks).damaged ≡ length marks.damaged
length_damaged floor marks = length-map-range_with_len (λ p. map (λ c. c - lost_checks floor p)
    (filter (λ c. nat_lt (floor_check floor p) c) (damaged_at marks p))) 0 (length marks.damaged)

pub length_bars : (floor : Floor) (marks : MarksView)
    → length (cut_marks floor marks).bars ≡ length marks.bars
length_bars floor marks = length-map-range_with_len
    (λ p. cut_bar (lost_checks floor p) (bar_at marks p)) 0 (length marks.bars)

or_false : (b : Bool) → (b || false) ≡ b
or_false true = refl
or_false false = refl

or_true : (b : Bool) → (b || true) ≡ true
or_true true = refl
or_true false = refl

-- a mark is made of what is left of the next check, or there is none to make
module _ (marks : MarksView) (floor : Floor) (p last left : ℕ) (old new : MarksView)
    (above : floor_check floor p ≤ last) (at : left + lost_checks floor p ≡ last + 1)
    (so_far : (c : ℕ) → is_damaged old p c ≡ is_left_damaged marks floor p last c) where
  module _ (added : (q c : ℕ)
      → is_damaged new q c ≡ (is_damaged old q c || ((q == p) && (left == c)))) where
    pub marked_next : is_damaged marks p (last + 1) ≡ true → (c : ℕ)
        → is_damaged new p c ≡ is_left_damaged marks floor p (last + 1) c
    marked_next found c = elim (cases_eq left c) [
      | inl here ↦
          let one : (eqb p p && eqb left c)
          ≡ true = ap (λ (b : Bool). b && eqb left c) (eq-eqb p p refl) ∙ eq-eqb left c here in
          added p c ∙ ap (λ (b : Bool). is_damaged old p c || b) one ∙ or_true (is_damaged old p c)
          ∙ sym (left_here marks floor p last c above (omega arith) ∙ found)
      | inr apart ↦
          let other : (eqb p p && eqb left c) ≡ false = ap (λ (b : Bool). b && eqb left c)
          (eq-eqb p p refl) ∙ ne_eqb left c apart in
          added p c ∙ ap (λ (b : Bool). is_damaged old p c || b) other ∙ or_false
          (is_damaged old p c)
          ∙ so_far c ∙ sym (left_other marks floor p last c (λ e. apart (omega arith)))
    ]

    pub others_same : (q c : ℕ) → q ≢ p → is_damaged new q c ≡ is_damaged old q c
    others_same q c apart =
        let other : (eqb q p && eqb left c)
        ≡ false = ap (λ (b : Bool). b && eqb left c) (ne_eqb q p apart) in
        added q c ∙ ap (λ (b : Bool). is_damaged old q c || b) other ∙ or_false (is_damaged old q c)

  pub unmarked_next : is_damaged marks p (last + 1) ≡ false → (c : ℕ)
      → is_damaged old p c ≡ is_left_damaged marks floor p (last + 1) c
  unmarked_next none c = elim (cases_eq (c + lost_checks floor p) (last + 1)) [
    | inl here ↦ so_far c ∙ left_not_yet marks floor p last c (omega arith) ∙ sym
        (left_here marks floor p last c above here ∙ none)
    | inr apart ↦ so_far c ∙ sym (left_other marks floor p last c apart)
  ]

  pub not_yet : is_damaged old p left ≡ false
  not_yet = so_far left ∙ left_not_yet marks floor p last left (omega arith)
