-- Marks that differ in their order alone, cut; and marks that are cut twice.
use Rattle.std.proofs.Common.{◌≡◌, ℕ, zero, suc, ◌+◌, ◌-◌, ◌<◌, ◌≤◌, Bool, true, false, ◌&&◌, cond}
use Rattle.std.proofs.Common.{List, [], ◌∷◌, length, map, Option, Some, None, refl, sym, ap}
use Rattle.std.proofs.Common.{◌∙◌, arith, inl, inr}
use Rattle.std.specs.Prelude.{nat_lt}
use Rattle.std.specs.List.{filter}
use Rattle.std.proofs.lemmas.Bool.{cases_lt, ltb-true, ltb-false, lt-ltb, le-ltb}
use Rattle.std.proofs.lemmas.List.{get_or_past}
use Rattle.std.proofs.lemmas.List.FromFn.{length-map-range_with_len}
use Rattle.line_tape.specs.History.{Process}
use Rattle.line_tape.specs.Views.{MarksView, bar_at, damaged_at}
use Rattle.line_cuts.specs.Cuts.{Floor, cut_bar, cut_marks, floor_check, lost_checks, whole_floor}
use Rattle.line_cuts.specs.Marks.{AreSameMarks}
use Rattle.line_cuts.proofs.MarkedCuts.{damaged_left, length_damaged}
use Rattle.line_cuts.proofs.SameLists.{same_list}
use Rattle.line_cuts.proofs.SurvivalCuts.{bar_cut, damaged_cut}
use Rattle.line_cuts.proofs.TwoCuts.{check_both}

-- one after another
pub marks_through : (a b c : MarksView) → AreSameMarks a b → AreSameMarks b c → AreSameMarks a c
marks_through a b c one two = record {
  count = one.count ∙ two.count;
  bars = one.bars ∙ two.bars;
  damaged = λ p d. one.damaged p d ∙ two.damaged p d;
}

-- what is left of marks in another order
pub marks_cut : (floor : Floor) (a b : MarksView) → AreSameMarks a b
    → AreSameMarks (cut_marks floor a) (cut_marks floor b)
marks_cut floor a b same = record {
  count = length_damaged floor a ∙ same.count ∙ sym (length_damaged floor b);
  bars = ap (λ (bars : List (Option ℕ)).
      (cut_marks floor (record { damaged = a.damaged; bars = bars })).bars) same.bars;
  damaged = λ p c.
      damaged_left floor a p c
      ∙ ap (λ (t : Bool). nat_lt (floor_check floor p) (c + lost_checks floor p) && t)
      (same.damaged p (c + lost_checks floor p))
      ∙ sym (damaged_left floor b p c);
}

-- a floor's check, one of what it leaves, and the two as one
record AreChecks (first next both : ℕ) : Type 0 where
  sum : both ≡ next + (first - 1)
  some : 1 ≤ first → 1 ≤ next

-- a number lessened twice
less_twice : (first next both x : ℕ) → AreChecks first next both
    → (x - (first - 1)) - (next - 1) ≡ x - (both - 1)
less_twice zero next both x are = omega (arith, are.sum)
less_twice (suc f) next both x are = omega (arith, are.sum, are.some (omega arith))

-- marks after both
marks_twice : (first next both : ℕ) → AreChecks first next both → (xs : List ℕ)
    → map (λ d. d - (next - 1)) (filter (λ d. nat_lt next d) (map (λ d. d - (first - 1)) (filter
    (λ d. nat_lt first d) xs))) ≡ map (λ d. d - (both - 1)) (filter (λ d. nat_lt both d) xs)
marks_twice first next both are [] = refl
marks_twice first next both are (x ∷ xs) =
    let ih = marks_twice first next both are xs in
    let once : List ℕ = map (λ d. d - (first - 1)) (filter (λ d. nat_lt first d) xs) in
    let whole : List ℕ = filter (λ d. nat_lt both d) xs in
    elim (nat_lt first x) as (λ b. b ≡ nat_lt first x
    → map (λ d. d - (next - 1)) (filter (λ d. nat_lt next d) (map (λ d. d - (first - 1))
    (cond b (x ∷ filter (λ d. nat_lt first d) xs) (filter (λ d. nat_lt first d) xs))))
    ≡ map (λ d. d - (both - 1)) (cond (nat_lt both x) (x ∷ whole) whole)) [
      | true ↦ λ e.
          let later : first < x = ltb-true first x (sym e) in
          ap (λ b. map (λ d. d - (next - 1)) (cond b ((x - (first - 1)) ∷ filter (λ d. nat_lt next
          d) once) (filter (λ d. nat_lt next d) once))) (test_twice first next both x are later)
          ∙ elim (nat_lt both x) as
          (λ b. map (λ d. d - (next - 1))
          (cond b ((x - (first - 1)) ∷ filter (λ d. nat_lt next d) once) (filter
          (λ d. nat_lt next d) once)) ≡ map (λ d. d - (both - 1)) (cond b (x ∷ whole) whole)) [
            | true ↦ ap (λ n. n ∷ map (λ d. d - (next - 1)) (filter (λ d. nat_lt next d) once))
                (less_twice first next both x are) ∙ ap (λ (v : List ℕ). (x - (both - 1)) ∷ v) ih
            | false ↦ ih
          ]
      | false ↦ λ e.
          let early : x ≤ first = ltb-false first x (sym e) in
          ih ∙ sym (ap (λ b. map (λ d. d - (both - 1)) (cond b (x ∷ whole) whole))
          (test_none first next both x are early))
    ] refl
  where
    test_twice : (first next both x : ℕ) → AreChecks first next both → first < x
        → nat_lt next (x - (first - 1)) ≡ nat_lt both x
    test_twice first next both x are later = elim (cases_lt both x) [
      | inl below ↦ lt-ltb next (x - (first - 1)) (omega (arith, are.sum)) ∙ sym
          (lt-ltb both x below)
      | inr past ↦ le-ltb next (x - (first - 1)) (omega (arith, are.sum)) ∙ sym (le-ltb both x past)
    ]

    test_none : (first next both x : ℕ) → AreChecks first next both → x ≤ first
        → nat_lt both x ≡ false
    test_none zero next both x are early = le-ltb both x (omega arith)
    test_none (suc f) next both x are early =
        le-ltb both x (omega (arith, are.sum, are.some (omega arith)))

-- a bar after both
bar_twice : (first next both : ℕ) → AreChecks first next both → (bar : Option ℕ)
    → cut_bar (next - 1) (cut_bar (first - 1) bar) ≡ cut_bar (both - 1) bar
bar_twice first next both are None = refl
bar_twice first next both are (Some bar) = ap Some (less_twice first next both bar are)

module _ (floor later : Floor) (history : List Process) (marks : MarksView)
    (checks : length later.checks ≡ length history) (first : length floor.checks ≡ length history)
    (some : (p : ℕ) → p < length history → 1 ≤ floor_check floor p → 1 ≤ floor_check later p) where
  abbrev both : Floor
  both = whole_floor floor later

  checks_are : (p : ℕ) → AreChecks (floor_check floor p) (floor_check later p) (floor_check both p)
  checks_are p = elim (cases_lt p (length history)) [
    | inl h ↦ record { sum = check_both floor later p (omega (arith, checks)); some = some p h }
    | inr past ↦
        let a : floor_check floor p
        ≡ 0 = get_or_past floor.checks p 0 (omega (arith, first, past)) in
        let b : floor_check later p
        ≡ 0 = get_or_past later.checks p 0 (omega (arith, checks, past)) in
        let c : floor_check both p
        ≡ 0 = get_or_past both.checks p 0 (omega (
          arith,
          checks,
          past,
          length-map-range_with_len
              (λ q. floor_check later q + lost_checks floor q) 0 (length later.checks),
        )) in
        record { sum = omega (arith, a, b, c); some = λ e. omega (arith, a, e) }
  ]

  damaged_twice : (cut_marks later (cut_marks floor marks)).damaged ≡ (cut_marks both marks).damaged
  damaged_twice =
      let cut_all : (f : Floor) (v : MarksView)
      → length (cut_marks f v).damaged
      ≡ length v.damaged = λ f v. length-map-range_with_len (λ p. map (λ c. c - lost_checks f p)
      (filter (λ c. nat_lt (floor_check f p) c) (damaged_at v p))) 0 (length v.damaged) in
      same_list [] (cut_marks later (cut_marks floor marks)).damaged (cut_marks both marks).damaged
      (cut_all later (cut_marks floor marks) ∙ cut_all floor marks ∙ sym (cut_all both marks))
      (λ p h.
      damaged_cut later history (cut_marks floor marks) p
      ∙ ap (λ xs. map (λ d. d - lost_checks later p)
      (filter (λ d. nat_lt (floor_check later p) d) xs)) (damaged_cut floor history marks p)
      ∙ marks_twice (floor_check floor p) (floor_check later p) (floor_check both p) (checks_are p)
      (damaged_at marks p)
      ∙ sym (damaged_cut both history marks p))

  bars_twice : (cut_marks later (cut_marks floor marks)).bars ≡ (cut_marks both marks).bars
  bars_twice =
      let cut_all : (f : Floor) (v : MarksView)
      → length (cut_marks f v).bars ≡ length v.bars = λ f v. length-map-range_with_len
      (λ p. cut_bar (lost_checks f p) (bar_at v p)) 0 (length v.bars) in
      same_list None (cut_marks later (cut_marks floor marks)).bars (cut_marks both marks).bars
      (cut_all later (cut_marks floor marks) ∙ cut_all floor marks ∙ sym (cut_all both marks))
      (λ p h.
      bar_cut later history (cut_marks floor marks) p
      ∙ ap (cut_bar (lost_checks later p)) (bar_cut floor history marks p)
      ∙ bar_twice (floor_check floor p) (floor_check later p) (floor_check both p) (checks_are p)
      (bar_at marks p)
      ∙ sym (bar_cut both history marks p))

  -- marks that are cut once more are cut once, further on
  pub marks_both : cut_marks later (cut_marks floor marks) ≡ cut_marks both marks
  marks_both = ap
      (λ (d : List (List ℕ)). record
      { damaged = d; bars = (cut_marks later (cut_marks floor marks)).bars }) damaged_twice ∙ ap
      (λ (b : List (Option ℕ)). record { damaged = (cut_marks both marks).damaged; bars = b })
      bars_twice
