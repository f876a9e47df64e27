-- Marks that differ in their order alone, after a mark, a bar, a restart or a cut.
use Rattle.std.proofs.Common.{◌≡◌, ℕ, zero, suc, ◌+◌, Bool, true, false, cond, List, [], ◌∷◌, ◌++◌}
use Rattle.std.proofs.Common.{length, get_or, set, Option, Some, refl, sym, ap, ◌∙◌, subst, arith}
use Rattle.std.proofs.Common.{inl, inr}
use Rattle.std.specs.Prelude.{◌==◌, ◌||◌, ◌&&◌, nat_lt}
use Rattle.std.specs.List.{filter, list_any}
use Rattle.std.proofs.lemmas.Bool.{cases_eq, cases_lt, eqb-true}
use Rattle.std.proofs.lemmas.List.{get_or-set_same, get_or-set_other, get_or_past, length-set}
use Rattle.std.proofs.lemmas.List.Folds.{list_any-append}
use Rattle.line_names.specs.declared.choices.Choice.{Choice}
use Rattle.line_tape.specs.Restart.{is_kept, restarted_damage, restarted_marks}
use Rattle.line_tape.specs.Survival.{is_damaged}
use Rattle.line_tape.specs.Views.{MarksView, damaged_at, with_bar, with_mark}
use Rattle.line_cuts.specs.Cuts.{Floor, cut_marks, floor_check, lost_checks}
use Rattle.line_cuts.specs.Marks.{AreSameMarks}
use Rattle.line_cuts.proofs.MarkedCuts.{damaged_left, length_damaged}

-- a list of checks has one
abbrev has : List ℕ → ℕ → Bool
has checks c = list_any (λ damaged. damaged == c) checks

-- one mark more
pub mark_same : (a b : MarksView) (p c : ℕ) → AreSameMarks a b
    → AreSameMarks (with_mark a p c) (with_mark b p c)
mark_same a b p c same = record {
  count = length-set a.damaged p (damaged_at a p ++ c ∷ []) ∙ same.count ∙ sym
      (length-set b.damaged p (damaged_at b p ++ c ∷ []));
  bars = same.bars;
  damaged = λ q d. elim (cases_eq q p) [
    | inl here ↦ elim (cases_lt p (length a.damaged)) [
      | inl within ↦
          subst (λ (v : ℕ). is_damaged (with_mark a p c) v d ≡ is_damaged (with_mark b p c) v d)
          (sym here)
          (ap (λ (xs : List ℕ). has xs d)
          (get_or-set_same a.damaged p (damaged_at a p ++ c ∷ []) [] within)
          ∙ list_any-append (λ damaged. damaged == d) (damaged_at a p) (c ∷ [])
          ∙ ap (λ (t : Bool). t || has (c ∷ []) d) (same.damaged p d)
          ∙ sym (list_any-append (λ damaged. damaged == d) (damaged_at b p) (c ∷ []))
          ∙ ap (λ (xs : List ℕ). has xs d) (sym (get_or-set_same b.damaged p
          (damaged_at b p ++ c ∷ []) [] (omega (arith, within, same.count)))))
      | inr past ↦
          subst (λ (v : ℕ). is_damaged (with_mark a p c) v d ≡ is_damaged (with_mark b p c) v d)
          (sym here)
          (ap (λ (xs : List ℕ). has xs d) (get_or_past (set a.damaged p (damaged_at a p ++ c ∷ []))
          p [] (omega (arith, past, length-set a.damaged p (damaged_at a p ++ c ∷ []))))
          ∙ ap (λ (xs : List ℕ). has xs d)
          (sym (get_or_past (set b.damaged p (damaged_at b p ++ c ∷ [])) p [] (omega
          (arith, past, same.count, length-set b.damaged p (damaged_at b p ++ c ∷ []))))))
    ]
    | inr apart ↦
        ap (λ (xs : List ℕ). has xs d)
        (get_or-set_other a.damaged p q (damaged_at a p ++ c ∷ []) [] apart)
        ∙ same.damaged q d
        ∙ ap (λ (xs : List ℕ). has xs d)
        (sym (get_or-set_other b.damaged p q (damaged_at b p ++ c ∷ []) [] apart))
  ];
}

-- one bar more
pub bar_same : (a b : MarksView) (p c : ℕ) → AreSameMarks a b
    → AreSameMarks (with_bar a p c) (with_bar b p c)
bar_same a b p c same = record {
  count = same.count;
  bars = ap (λ (bars : List (Option ℕ)). set bars p (Some c)) same.bars;
  damaged = same.damaged;
}

-- what a restart keeps of marked checks
gone : (b : Bool) → (b && false) ≡ false
gone true = refl
gone false = refl

kept_first : (t k rest all : Bool) → (t ≡ true → k ≡ true) → rest ≡ (all && k)
    → (t || rest) ≡ ((t || all) && k)
kept_first true k rest all here ih = sym (here refl)
kept_first false k rest all here ih = ih

gone_first : (t k rest all : Bool) → (t ≡ true → k ≡ false) → rest ≡ (all && k)
    → rest ≡ ((t || all) && k)
gone_first true k rest all here ih =
    ih ∙ ap (λ (b : Bool). all && b) (here refl) ∙ gone all ∙ sym (here refl)
gone_first false k rest all here ih = ih

has_kept : (choice : Choice) (xs : List ℕ) (c : ℕ)
    → has (filter (is_kept choice) xs) c ≡ (has xs c && is_kept choice c)
has_kept choice [] c = refl
has_kept choice (x ∷ xs) c =
    let rest : List ℕ = filter (is_kept choice) xs in
    let ih : has rest c ≡ (has xs c && is_kept choice c) = has_kept choice xs c in
    elim (is_kept choice x) as (λ k. k ≡ is_kept choice x
    → has (cond k (x ∷ rest) rest) c ≡ (((x == c) || has xs c) && is_kept choice c)) [
      | true ↦ λ e. kept_first (x == c) (is_kept choice c) (has rest c) (has xs c)
          (λ t. ap (is_kept choice) (sym (eqb-true x c t)) ∙ sym e) ih
      | false ↦ λ e. gone_first (x == c) (is_kept choice c) (has rest c) (has xs c)
          (λ t. ap (is_kept choice) (sym (eqb-true x c t)) ∙ sym e) ih
    ] refl

damage_same : (xs ys : List (List ℕ)) (line : List Choice) → length xs ≡ length ys
    → ((p c : ℕ) → has (get_or xs p []) c ≡ has (get_or ys p []) c)
    → (p c : ℕ) → has (get_or (restarted_damage xs line) p []) c
    ≡ has (get_or (restarted_damage ys line) p []) c
damage_same [] [] line count same p c = refl
damage_same [] (y ∷ ys) line count same p c = absurd (omega arith)
damage_same (x ∷ xs) [] line count same p c = absurd (omega arith)
damage_same (x ∷ xs) (y ∷ ys) [] count same p c = refl
damage_same (x ∷ xs) (y ∷ ys) (choice ∷ line) count same zero c =
    has_kept choice x c ∙ ap (λ (b : Bool). b && is_kept choice c) (same 0 c) ∙ sym
    (has_kept choice y c)
damage_same (x ∷ xs) (y ∷ ys) (choice ∷ line) count same (suc p) c =
    damage_same xs ys line (omega arith) (λ q d. same (suc q) d) p c

count_same : (xs ys : List (List ℕ)) (line : List Choice) → length xs ≡ length ys
    → length (restarted_damage xs line) ≡ length (restarted_damage ys line)
count_same [] [] line count = refl
count_same [] (y ∷ ys) line count = absurd (omega arith)
count_same (x ∷ xs) [] line count = absurd (omega arith)
count_same (x ∷ xs) (y ∷ ys) [] count = refl
count_same (x ∷ xs) (y ∷ ys) (choice ∷ line) count = ap suc (count_same xs ys line (omega arith))

pub restart_same : (a b : MarksView) (line : List Choice) → AreSameMarks a b
    → AreSameMarks (restarted_marks a line) (restarted_marks b line)
restart_same a b line same = record {
  count = count_same a.damaged b.damaged line same.count;
  bars = ap (λ (bars : List (Option ℕ)).
      (restarted_marks (record { damaged = a.damaged; bars = bars }) line).bars) same.bars;
  damaged = damage_same a.damaged b.damaged line same.count same.damaged;
}

-- one after another
pub marks_through : (a b c : MarksView) → AreSameMarks a b → AreSameMarks b c → AreSameMarks a c
marks_through a b c one two = record {
  count = one.count ∙ two.count;
  bars = one.bars ∙ two.bars;
  damaged = λ p d. one.damaged p d ∙ two.damaged p d;
}

-- what is left of marks in another order
pub marks_cut : (floor : Floor) (a b : MarksView) → AreSameMarks a b
    → AreSameMarks (cut_marks floor a) (cut_marks floor b)
marks_cut floor a b same = record {
  count = length_damaged floor a ∙ same.count ∙ sym (length_damaged floor b);
  bars = ap (λ (bars : List (Option ℕ)).
      (cut_marks floor (record { damaged = a.damaged; bars = bars })).bars) same.bars;
  damaged = λ p c.
      damaged_left floor a p c
      ∙ ap (λ (t : Bool). nat_lt (floor_check floor p) (c + lost_checks floor p) && t)
      (same.damaged p (c + lost_checks floor p))
      ∙ sym (damaged_left floor b p c);
}
