-- The damaged checks that a tree tells: whether they are on the tape, and the rows that are told of
-- them one after another.
use Rattle.std.proofs.Common.{◌≡◌, ℕ, ◌+◌, ◌<◌, ◌≤◌, Bool, true, eqb, cond, List, []}
use Rattle.std.proofs.Common.{false, inl, inr, length, get_or, sym, ap, ◌∙◌, subst, arith}
use Rattle.std.specs.List.{All, list_any}
use Rattle.std.specs.Prelude.{nat_lt}
use Rattle.std.proofs.lemmas.Bool.{cases_eq, cases_lt, eqb-true, le-ltb, lt-ltb}
use Rattle.std.proofs.lemmas.List.{get_or-set_other, get_or-set_same, length-set}
use Rattle.std.proofs.lemmas.List.Folds.{Any-from_list_any}
use Rattle.line_tape.specs.declared.events.Event.{Event}
use Rattle.line_tape.specs.Event.{checks}
use Rattle.line_catalogue.specs.declared.kept_rows.Row.{Row}
use Rattle.line_catalogue.specs.Rows.{IsRow, AreRows, no_row, with_damage}

-- what holds of each damaged check holds of the one that is found
pub found_within : (last c : ℕ) (damaged : List ℕ) → All (λ check. check ≤ last) damaged
    → list_any (λ check. eqb check c) damaged ≡ true → c ≤ last
found_within last c damaged all found =
    let (k, x, within, at, same) = Any-from_list_any (λ check. eqb check c) damaged found in
    subst (λ (v : ℕ). v ≤ last) (at ∙ eqb-true x c same) (all k x within)

-- the damaged checks that the row of check k knows of, once the checks before c are told
abbrev pub told : List ℕ → ℕ → ℕ → List ℕ
told damaged c k = cond (nat_lt k c) damaged []

-- the rows of the checks before c tell whether these are damaged, and those from c on of no damage
pub record AreTold (n : ℕ) (tape : List Event) (damaged : List ℕ) (c : ℕ)
    (rows : List Row) : Type 0 where
  pub count : length rows ≡ checks tape + 1
  pub each : (k : ℕ) (d : Row) → k ≤ checks tape
      → IsRow n tape (told damaged c k) k (get_or rows k d)

told-before : (damaged : List ℕ) (c k : ℕ) → k < c → told damaged c k ≡ damaged
told-before damaged c k h = ap (λ (b : Bool). cond b damaged []) (lt-ltb k c h)

told-behind : (damaged : List ℕ) (c k : ℕ) → c ≤ k → told damaged c k ≡ []
told-behind damaged c k h = ap (λ (b : Bool). cond b damaged []) (le-ltb k c h)

-- at first none is told of
pub AreTold-none : (n : ℕ) (tape : List Event) (damaged : List ℕ) (rows : List Row)
    → AreRows n tape [] rows → AreTold n tape damaged 0 rows
AreTold-none n tape damaged rows are = record {
  count = are.count;
  each = λ k d h. subst (λ (xs : List ℕ). IsRow n tape xs k (get_or rows k d))
      (sym (told-behind damaged 0 k (omega arith))) (are.each k d h);
}

-- in the end all are
pub AreTold-all : (n : ℕ) (tape : List Event) (damaged : List ℕ) (c : ℕ) (rows : List Row)
    → checks tape < c → AreTold n tape damaged c rows → AreRows n tape damaged rows
AreTold-all n tape damaged c rows past are = record {
  count = are.count;
  each = λ k d h. subst (λ (xs : List ℕ). IsRow n tape xs k (get_or rows k d))
      (told-before damaged c k (omega (arith, past, h))) (are.each k d h);
}

-- ---- one check more is told of

-- the row of a check, as far as its mark
marked-row : (n : ℕ) (tape : List Event) (old new : List ℕ) (k : ℕ) (row : Row) (mark : Bool)
    → IsRow n tape old k row → mark ≡ list_any (λ check. eqb check k) new
    → IsRow n tape new k (record row { damaged = mark })
marked-row n tape old new k row mark are is = record {
  place_is = are.place_is;
  sends_is = are.sends_is;
  damaged_is = is;
  reach_is = are.reach_is;
}

-- of each other check as much is told as before
told-same : (damaged : List ℕ) (c k : ℕ) → (k ≡ c → ⊥) → told damaged c k ≡ told damaged (c + 1) k
told-same damaged c k apart = elim (cases_lt k c) [
  | inl before ↦ told-before damaged c k before
      ∙ sym (told-before damaged (c + 1) k (omega (arith, before)))
  | inr behind ↦ told-behind damaged c k behind
      ∙ sym (told-behind damaged (c + 1) k (omega (arith, behind, apart)))
]

-- a check that is damaged
pub AreTold-damaged : (n : ℕ) (tape : List Event) (damaged : List ℕ) (c : ℕ) (rows : List Row)
    → c ≤ checks tape → list_any (λ check. eqb check c) damaged ≡ true
    → AreTold n tape damaged c rows → AreTold n tape damaged (c + 1) (with_damage rows c)
AreTold-damaged n tape damaged c rows there is are =
    let row : Row = get_or rows c no_row in
    let within : c < length rows = omega (arith, there, are.count) in
    record {
      count = length-set rows c (record row { damaged = true }) ∙ are.count;
      each = λ k d h. elim (cases_eq k c) [
        | inl here ↦ subst (λ j. IsRow n tape (told damaged (c + 1) j) j
            (get_or (with_damage rows c) j d)) (sym here)
            (subst (λ (xs : List ℕ). IsRow n tape xs c (get_or (with_damage rows c) c d))
            (sym (told-before damaged (c + 1) c (omega arith)))
            (subst (IsRow n tape damaged c)
            (sym (get_or-set_same rows c (record row { damaged = true }) d within))
            (marked-row n tape (told damaged c c) damaged c row true (are.each c no_row there)
            (sym is))))
        | inr apart ↦ subst (IsRow n tape (told damaged (c + 1) k) k)
            (sym (get_or-set_other rows c k (record row { damaged = true }) d apart))
            (subst (λ (xs : List ℕ). IsRow n tape xs k (get_or rows k d))
            (told-same damaged c k apart) (are.each k d h))
      ];
    }

-- the row of a check that no mark tells of
sound-row : (n : ℕ) (tape : List Event) (damaged : List ℕ) (c : ℕ) (row : Row)
    → list_any (λ check. eqb check c) damaged ≡ false → IsRow n tape [] c row
    → IsRow n tape damaged c row
sound-row n tape damaged c row is are = record {
  place_is = are.place_is;
  sends_is = are.sends_is;
  damaged_is = are.damaged_is ∙ sym is;
  reach_is = are.reach_is;
}

-- and one that is not
pub AreTold-sound : (n : ℕ) (tape : List Event) (damaged : List ℕ) (c : ℕ) (rows : List Row)
    → list_any (λ check. eqb check c) damaged ≡ false → AreTold n tape damaged c rows
    → AreTold n tape damaged (c + 1) rows
AreTold-sound n tape damaged c rows is are = record {
  count = are.count;
  each = λ k d h. elim (cases_eq k c) [
    | inl here ↦ subst (λ j. IsRow n tape (told damaged (c + 1) j) j (get_or rows j d)) (sym here)
        (subst (λ (xs : List ℕ). IsRow n tape xs c (get_or rows c d))
        (sym (told-before damaged (c + 1) c (omega arith)))
        (sound-row n tape damaged c (get_or rows c d) is (subst (λ (xs : List ℕ).
        IsRow n tape xs c (get_or rows c d)) (told-behind damaged c c (omega arith))
        (are.each c d (omega (arith, h, here))))))
    | inr apart ↦ subst (λ (xs : List ℕ). IsRow n tape xs k (get_or rows k d))
        (told-same damaged c k apart) (are.each k d h)
  ];
}
