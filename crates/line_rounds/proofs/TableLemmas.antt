-- What is seen of a table once one of its lists is written, and of one that is made of given lists.
use Rattle.std.proofs.Common.{◌≡◌, ℕ, ◌<◌, List, [], length, get_or, map, replicate, set, ap, ◌∙◌}
use Rattle.std.proofs.Common.{subst, sym, arith, inl, inr}
use Rattle.std.specs.List.{range_with_len}
use Rattle.std.proofs.lemmas.Bool.{cases_eq, cases_lt}
use Rattle.std.proofs.lemmas.List.{length-replicate, length-set, get_or-replicate, get_or-set_same}
use Rattle.std.proofs.lemmas.List.{get_or-set_other, get_or_past}
use Rattle.std.proofs.lemmas.List.FromFn.{fill_by_all, get_or-map-range_with_len}
use Rattle.std.proofs.lemmas.List.FromFn.{length-map-range_with_len}
use Rattle.line_rounds.specs.Tables.{between, with_list, table_of, IsTable}

module _ {A : Type 0} (table : List (List (List A))) (p q : ℕ) (list : List A)
    (row : p < length table) where
  -- the list that is written
  pub between-same : q < length (get_or table p []) → between (with_list table p q list) p q ≡ list
  between-same column =
      ap (λ (lists : List (List A)). get_or lists q [])
      (get_or-set_same table p (set (get_or table p []) q list) [] row)
      ∙ get_or-set_same (get_or table p []) q list [] column

  -- any other
  pub between-other : (a b : ℕ) → ((a ≡ p) × (b ≡ q) → ⊥)
      → between (with_list table p q list) a b ≡ between table a b
  between-other a b apart = elim (cases_eq a p) [
    | inl same ↦ subst (λ (v : ℕ). between (with_list table p q list) v b ≡ between table v b)
        (sym same)
        (ap (λ (lists : List (List A)). get_or lists b [])
        (get_or-set_same table p (set (get_or table p []) q list) [] row)
        ∙ get_or-set_other (get_or table p []) q b list [] (λ e. apart (same, e)))
    | inr other ↦ ap (λ (lists : List (List A)). get_or lists b [])
        (get_or-set_other table p a (set (get_or table p []) q list) [] other)
  ]

  -- there are as many as before
  pub IsTable-written : (n : ℕ) → IsTable n table → IsTable n (with_list table p q list)
  IsTable-written n is = record {
    rows = length-set table p (set (get_or table p []) q list) ∙ is.rows;
    columns = λ a within. elim (cases_eq a p) [
      | inl same ↦ subst (λ (v : ℕ). length (get_or (with_list table p q list) v []) ≡ n) (sym same)
          (ap (λ (lists : List (List A)). length lists)
          (get_or-set_same table p (set (get_or table p []) q list) [] row)
          ∙ length-set (get_or table p []) q list ∙ is.columns p (omega (arith, row, is.rows)))
      | inr other ↦ ap (λ (lists : List (List A)). length lists) (get_or-set_other table p a
          (set (get_or table p []) q list) [] other) ∙ is.columns a within
    ];
  }

module _ {A : Type 0} (n : ℕ) (lists : ℕ → ℕ → List A) where
  -- a list of a table that is made of them
  pub between-of : (p q : ℕ) → p < n → q < n → between (table_of n lists) p q ≡ lists p q
  between-of p q p_within q_within =
      ap (λ (row : List (List A)). get_or row q []) (get_or-map-range_with_len
      (λ v. map (λ w. lists v w) (range_with_len 0 n)) 0 n p p [] p_within (omega arith))
      ∙ get_or-map-range_with_len (λ w. lists p w) 0 n q q [] q_within (omega arith)

  -- it has n rows of n lists
  pub IsTable-of : IsTable n (table_of n lists)
  IsTable-of = record {
    rows = length-map-range_with_len (λ v. map (λ w. lists v w) (range_with_len 0 n)) 0 n;
    columns = λ p within. ap (λ (row : List (List A)). length row) (get_or-map-range_with_len
        (λ v. map (λ w. lists v w) (range_with_len 0 n)) 0 n p p [] within (omega arith))
        ∙ length-map-range_with_len (λ w. lists p w) 0 n;
  }

  -- and nothing else has these lists
  pub table_of-all : (table : List (List (List A))) → IsTable n table
      → ((p q : ℕ) → p < n → q < n → between table p q ≡ lists p q) → table ≡ table_of n lists
  table_of-all table is each =
      fill_by_all (λ p. map (λ q. lists p q) (range_with_len 0 n)) table n [] is.rows
      (λ p p_within. fill_by_all (λ q. lists p q) (get_or table p []) n [] (is.columns p p_within)
      (λ q q_within. each p q p_within q_within))

-- a table with nothing on it
module _ {A : Type 0} (n : ℕ) where
  abbrev nothing : List A
  nothing = []

  none-at : (i : ℕ) → get_or (replicate n nothing) i [] ≡ nothing
  none-at i = elim (cases_lt i n) [
    | inl below ↦ get_or-replicate n i nothing [] below
    | inr past ↦ get_or_past (replicate n nothing) i []
        (omega (arith, past, length-replicate n nothing))
  ]

  pub between-none : (p q : ℕ) → between (replicate n (replicate n nothing)) p q ≡ nothing
  between-none p q = elim (cases_lt p n) [
    | inl below ↦ ap (λ (row : List (List A)). get_or row q [])
        (get_or-replicate n p (replicate n nothing) [] below) ∙ none-at q
    | inr past ↦ ap (λ (row : List (List A)). get_or row q []) (get_or_past (replicate n
        (replicate n nothing)) p [] (omega (arith, past, length-replicate n (replicate n nothing))))
  ]

  pub IsTable-none : IsTable n (replicate n (replicate n nothing))
  IsTable-none = record {
    rows = length-replicate n (replicate n nothing);
    columns = λ p within. ap (λ (row : List (List A)). length row)
        (get_or-replicate n p (replicate n nothing) [] within) ∙ length-replicate n nothing;
  }
