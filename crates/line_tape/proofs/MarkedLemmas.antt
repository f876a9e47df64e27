-- Marks in the order of their numbers: what one mark more, a look for a check and a cut do to the
-- list of the damaged checks.
use Rattle.std.proofs.Common.{◌≡◌, ℕ, suc, ◌+◌, ◌-◌, ◌<◌, ◌≤◌, Bool, true, false, ◌||◌, eqb, cond}
use Rattle.std.proofs.Common.{List, [], ◌∷◌, ◌++◌, length, get_or, map, filter, None, Some, refl}
use Rattle.std.proofs.Common.{sym, ap, ◌∙◌, arith}
use Rattle.std.specs.Prelude.{nat_le, nat_lt, is_some, slice_get, ◌==◌, ◌↔◌, Option, IsSome, IfSome}
use Rattle.std.specs.List.{All, list_any}
use Rattle.std.specs.Map.{lookup, keys_of}
use Rattle.std.specs.BTreeMap.{insert_entry, is_at}
use Rattle.std.specs.Ordering.{nat_cmp, is_eq, is_lt, match_ordering}
use Rattle.std.specs.declared.cmp.Ordering.{Ordering}
use Rattle.std.specs.declared.cmp.Ordering.TheVariants.{Less, Equal, Greater}
use Rattle.std.proofs.lemmas.Bool.{le-leb, lt-leb, leb-true, leb-false, ltb-false, le-ltb, eq-eqb}
use Rattle.std.proofs.lemmas.Bool.{ne_eqb, true≢false, false≢true}
use Rattle.std.proofs.lemmas.Cmp.{ranked, by_ranked}
use Rattle.std.proofs.lemmas.List.Elements.{filter-append, All-cons}
use Rattle.std.proofs.lemmas.List.Folds.{list_any_none}
use Rattle.std.proofs.lemmas.List.{length_push}
use Rattle.std.proofs.lemmas.Option.{same_Some}
use Rattle.std.proofs.lemmas.Map.Keys.{any_passes_from_place, ge_from_not_lt}
use Rattle.line_tape.specs.Marked.{put_mark, by_number, checks_marked, AreNumberedBelow}

-- ---- whether a check is among them

or_swap : (a b c : Bool) → (a || (b || c)) ≡ (b || (a || c))
or_swap false b c = refl
or_swap true false c = refl
or_swap true true c = refl

-- wherever a mark is put, it is looked at with the others
any_put : (test : ℕ × ℕ → Bool) (mark : ℕ × ℕ) (marks : List (ℕ × ℕ))
    → list_any test (put_mark mark marks) ≡ (test mark || list_any test marks)
any_put test mark [] = refl
any_put test mark (first ∷ rest) =
    elim (nat_le mark.1 first.1)
    as (λ b. list_any test (cond b (mark ∷ first ∷ rest) (first ∷ put_mark mark rest))
    ≡ (test mark || (test first || list_any test rest))) [
      | true ↦ refl
      | false ↦ ap (λ b. test first || b) (any_put test mark rest)
          ∙ or_swap (test first) (test mark) (list_any test rest)
    ]

-- the order says nothing of what is there
any_order : (test : ℕ × ℕ → Bool) (marks : List (ℕ × ℕ))
    → list_any test (by_number marks) ≡ list_any test marks
any_order test [] = refl
any_order test (mark ∷ marks) = any_put test mark (by_number marks)
    ∙ ap (λ b. test mark || b) (any_order test marks)

any_map : (test : ℕ → Bool) (marks : List (ℕ × ℕ))
    → list_any test (map (λ mark. mark.0) marks) ≡ list_any (λ mark. test mark.0) marks
any_map test [] = refl
any_map test (mark ∷ marks) = ap (λ b. test mark.0 || b) (any_map test marks)

-- a test of the checks that were marked is a test of the marks
pub any_marked : (test : ℕ → Bool) (marks : List (ℕ × ℕ))
    → list_any test (checks_marked marks) ≡ list_any (λ mark. test mark.0) marks
any_marked test marks = any_map test (by_number marks) ∙ any_order (λ mark. test mark.0) marks

-- the comparison of a tree finds just the equal check
same_check : (c k : ℕ) → is_eq (nat_cmp c k) ≡ eqb k c
same_check c k = by_ranked (c < k) (c ≡ k) (k < c) (nat_cmp c k) (ranked c k (nat_cmp c k) refl)
    (λ o h. ap is_eq o ∙ sym (ne_eqb k c (λ e. absurd (omega (arith, h, e)))))
    (λ o h. ap is_eq o ∙ sym (eq-eqb k c (sym h)))
    (λ o h. ap is_eq o ∙ sym (ne_eqb k c (λ e. absurd (omega (arith, h, e)))))

found : (c : ℕ) (marks : List (ℕ × ℕ))
    → is_some (lookup (is_at (nat_cmp c)) marks) ≡ list_any (λ mark. eqb mark.0 c) marks
found c [] = refl
found c (mark ∷ marks) =
    ap (λ b. is_some (cond b (Some mark.1) (lookup (is_at (nat_cmp c)) marks)))
    (same_check c mark.0)
    ∙ elim (eqb mark.0 c)
    as (λ b. is_some (cond b (Some mark.1) (lookup (is_at (nat_cmp c)) marks))
    ≡ (b || list_any (λ mark. eqb mark.0 c) marks)) [
      | true ↦ refl
      | false ↦ found c marks
    ]

-- a look into the tree tells whether the check was marked
pub has_marked : (c : ℕ) (marks : List (ℕ × ℕ))
    → is_some (lookup (is_at (nat_cmp c)) marks)
    ≡ list_any (λ damaged. damaged == c) (checks_marked marks)
has_marked c marks = found c marks ∙ sym (any_marked (λ damaged. damaged == c) marks)

-- ---- one mark more

-- a mark that is numbered above all others is the last
put_last : (mark : ℕ × ℕ) (marks : List (ℕ × ℕ)) → AreNumberedBelow mark.1 marks
    → put_mark mark marks ≡ marks ++ mark ∷ []
put_last mark [] below = refl
put_last mark (first ∷ rest) below =
    ap (λ b. cond b (mark ∷ first ∷ rest) (first ∷ put_mark mark rest))
    (lt-leb mark.1 first.1 below.0)
    ∙ ap (λ ms. first ∷ ms) (put_last mark rest below.1)

-- it stays the last when another is put among them
put_before : (mark last : ℕ × ℕ) (marks : List (ℕ × ℕ)) → mark.1 < last.1
    → put_mark mark (marks ++ last ∷ []) ≡ put_mark mark marks ++ last ∷ []
put_before mark last [] below =
    ap (λ b. cond b (mark ∷ last ∷ []) (last ∷ mark ∷ []))
    (le-leb mark.1 last.1 (omega (arith, below)))
put_before mark last (first ∷ rest) below =
    elim (nat_le mark.1 first.1)
    as (λ b. cond b (mark ∷ first ∷ rest ++ last ∷ [])
    (first ∷ put_mark mark (rest ++ last ∷ []))
    ≡ cond b (mark ∷ first ∷ rest) (first ∷ put_mark mark rest) ++ last ∷ []) [
      | true ↦ refl
      | false ↦ ap (λ ms. first ∷ ms) (put_before mark last rest below)
    ]

numbered_put : (next : ℕ) (mark : ℕ × ℕ) (marks : List (ℕ × ℕ)) → mark.1 < next
    → AreNumberedBelow next marks → AreNumberedBelow next (put_mark mark marks)
numbered_put next mark [] below are = (below, tt)
numbered_put next mark (first ∷ rest) below are =
    elim (nat_le mark.1 first.1)
    as (λ b. AreNumberedBelow next (cond b (mark ∷ first ∷ rest) (first ∷ put_mark mark rest))) [
      | true ↦ (below, are)
      | false ↦ (are.0, numbered_put next mark rest below are.1)
    ]

numbered_order : (next : ℕ) (marks : List (ℕ × ℕ)) → AreNumberedBelow next marks
    → AreNumberedBelow next (by_number marks)
numbered_order next [] are = tt
numbered_order next (mark ∷ marks) are =
    numbered_put next mark (by_number marks) are.0 (numbered_order next marks are.1)

numbered_more : (next : ℕ) (marks : List (ℕ × ℕ)) → AreNumberedBelow next marks
    → AreNumberedBelow (next + 1) marks
numbered_more next [] are = tt
numbered_more next (mark ∷ marks) are = (omega (arith, are.0), numbered_more next marks are.1)

-- with one mark more they are numbered below one number more
pub numbered_insert : (c next : ℕ) (marks : List (ℕ × ℕ)) → AreNumberedBelow next marks
    → AreNumberedBelow (next + 1) (insert_entry nat_cmp marks c next)
numbered_insert c next [] are = (omega arith, tt)
numbered_insert c next (mark ∷ marks) are =
    elim (nat_cmp c mark.0)
    as (λ o. AreNumberedBelow (next + 1)
    (match_ordering o ((c, next) ∷ mark ∷ marks) ((mark.0, next) ∷ marks)
    (mark ∷ insert_entry nat_cmp marks c next))) [
      | Less ↦ (omega arith, (omega (arith, are.0), numbered_more next marks are.1))
      | Equal ↦ (omega arith, numbered_more next marks are.1)
      | Greater ↦ (omega (arith, are.0), numbered_insert c next marks are.1)
    ]

or_first : (a b : Bool) → (a || b) ≡ false → a ≡ false
or_first false b none = refl
or_first true b none = absurd (true≢false none)

or_others : (a b : Bool) → (a || b) ≡ false → b ≡ false
or_others false b none = none
or_others true b none = absurd (true≢false none)

order_insert : (c n : ℕ) (marks : List (ℕ × ℕ)) → AreNumberedBelow n marks
    → list_any (λ mark. eqb mark.0 c) marks ≡ false
    → by_number (insert_entry nat_cmp marks c n) ≡ by_number marks ++ (c, n) ∷ []
order_insert c n [] are none = refl
order_insert c n (mark ∷ marks) are none =
    let others : list_any (λ mark. eqb mark.0 c) marks ≡ false =
    or_others (eqb mark.0 c) (list_any (λ mark. eqb mark.0 c) marks) none in
    let placed : Ordering → List (ℕ × ℕ) =
    λ o. match_ordering o ((c, n) ∷ mark ∷ marks) ((mark.0, n) ∷ marks)
    (mark ∷ insert_entry nat_cmp marks c n) in
    by_ranked (c < mark.0) (c ≡ mark.0) (mark.0 < c) (nat_cmp c mark.0)
    (ranked c mark.0 (nat_cmp c mark.0) refl)
    (λ o h. ap (λ x. by_number (placed x)) o
    ∙ put_last (c, n) (by_number (mark ∷ marks)) (numbered_order n (mark ∷ marks) are))
    (λ o h. absurd
    (true≢false
    (sym (eq-eqb mark.0 c (sym h))
    ∙ or_first (eqb mark.0 c) (list_any (λ mark. eqb mark.0 c) marks) none)))
    (λ o h. ap (λ x. by_number (placed x)) o
    ∙ ap (put_mark mark) (order_insert c n marks are.1 others)
    ∙ put_before mark (c, n) (by_number marks) are.0)

map_push : (marks : List (ℕ × ℕ)) (c n : ℕ)
    → map (λ mark. mark.0) (marks ++ (c, n) ∷ []) ≡ map (λ mark. mark.0) marks ++ c ∷ []
map_push [] c n = refl
map_push (mark ∷ marks) c n = ap (λ cs. mark.0 ∷ cs) (map_push marks c n)

-- a check that had no mark is the last of those that were marked
pub marked_insert : (c n : ℕ) (marks : List (ℕ × ℕ)) → AreNumberedBelow n marks
    → list_any (λ damaged. damaged == c) (checks_marked marks) ≡ false
    → checks_marked (insert_entry nat_cmp marks c n) ≡ checks_marked marks ++ c ∷ []
marked_insert c n marks are none =
    ap (map (λ mark. mark.0))
    (order_insert c n marks are (sym (any_marked (λ damaged. damaged == c) marks) ∙ none))
    ∙ map_push (by_number marks) c n

-- ---- a cut

-- each mark is numbered no lower
abbrev AreFrom : ℕ → List (ℕ × ℕ) → Type 0
AreFrom number [] = Unit {0}
AreFrom number (mark ∷ marks) = (number ≤ mark.1) × AreFrom number marks

-- the marks are in the order of their numbers
abbrev AreOrdered : List (ℕ × ℕ) → Type 0
AreOrdered [] = Unit {0}
AreOrdered (mark ∷ marks) = AreFrom mark.1 marks × AreOrdered marks

from_less : (a b : ℕ) (marks : List (ℕ × ℕ)) → a ≤ b → AreFrom b marks → AreFrom a marks
from_less a b [] h are = tt
from_less a b (mark ∷ marks) h are = (omega (arith, h, are.0), from_less a b marks h are.1)

from_put : (number : ℕ) (mark : ℕ × ℕ) (marks : List (ℕ × ℕ)) → number ≤ mark.1
    → AreFrom number marks → AreFrom number (put_mark mark marks)
from_put number mark [] h are = (h, tt)
from_put number mark (first ∷ rest) h are =
    elim (nat_le mark.1 first.1)
    as (λ b. AreFrom number (cond b (mark ∷ first ∷ rest) (first ∷ put_mark mark rest))) [
      | true ↦ (h, are)
      | false ↦ (are.0, from_put number mark rest h are.1)
    ]

ordered_put : (mark : ℕ × ℕ) (marks : List (ℕ × ℕ)) → AreOrdered marks
    → AreOrdered (put_mark mark marks)
ordered_put mark [] are = (tt, tt)
ordered_put mark (first ∷ rest) are =
    elim (nat_le mark.1 first.1)
    as (λ b. nat_le mark.1 first.1 ≡ b
    → AreOrdered (cond b (mark ∷ first ∷ rest) (first ∷ put_mark mark rest))) [
      | true ↦ (λ e. let h : mark.1 ≤ first.1 = leb-true mark.1 first.1 e in
          ((h, from_less mark.1 first.1 rest h are.0), are))
      | false ↦
          (λ e. (
            from_put first.1 mark rest
                (omega (arith, leb-false mark.1 first.1 e)) are.0,
            ordered_put mark rest are.1,
          ))
    ] refl

order_ordered : (marks : List (ℕ × ℕ)) → AreOrdered (by_number marks)
order_ordered [] = tt
order_ordered (mark ∷ marks) = ordered_put mark (by_number marks) (order_ordered marks)

put_first : (mark : ℕ × ℕ) (marks : List (ℕ × ℕ)) → AreFrom mark.1 marks
    → put_mark mark marks ≡ mark ∷ marks
put_first mark [] are = refl
put_first mark (first ∷ rest) are =
    ap (λ b. cond b (mark ∷ first ∷ rest) (first ∷ put_mark mark rest))
    (le-leb mark.1 first.1 are.0)

module _ (test : ℕ × ℕ → Bool) where
  from_filter : (number : ℕ) (marks : List (ℕ × ℕ)) → AreFrom number marks
      → AreFrom number (filter test marks)
  from_filter number [] are = tt
  from_filter number (mark ∷ marks) are =
      elim (test mark)
      as (λ b. AreFrom number (cond b (mark ∷ filter test marks) (filter test marks))) [
        | true ↦ (are.0, from_filter number marks are.1)
        | false ↦ from_filter number marks are.1
      ]

  -- a mark that doesn't pass leaves nothing
  filter_cut : (mark : ℕ × ℕ) (marks : List (ℕ × ℕ)) → test mark ≡ false
      → filter test (put_mark mark marks) ≡ filter test marks
  filter_cut mark [] fails = ap (λ b. cond b (mark ∷ []) []) fails
  filter_cut mark (first ∷ rest) fails =
      elim (nat_le mark.1 first.1)
      as (λ b. filter test (cond b (mark ∷ first ∷ rest) (first ∷ put_mark mark rest))
      ≡ filter test (first ∷ rest)) [
        | true ↦ ap (λ b. cond b (mark ∷ filter test (first ∷ rest)) (filter test (first ∷ rest)))
            fails
        | false ↦ ap (λ ms. cond (test first) (first ∷ ms) ms) (filter_cut mark rest fails)
      ]

  -- one that passes is put among those that pass
  filter_kept : (mark : ℕ × ℕ) (marks : List (ℕ × ℕ)) → AreOrdered marks → test mark ≡ true
      → filter test (put_mark mark marks) ≡ put_mark mark (filter test marks)
  filter_kept mark [] are passes = ap (λ b. cond b (mark ∷ []) []) passes
  filter_kept mark (first ∷ rest) are passes =
      elim (nat_le mark.1 first.1)
      as (λ b. nat_le mark.1 first.1 ≡ b
      → filter test (cond b (mark ∷ first ∷ rest) (first ∷ put_mark mark rest))
      ≡ put_mark mark (filter test (first ∷ rest))) [
        | true ↦ (λ e.
            let h : mark.1 ≤ first.1 = leb-true mark.1 first.1 e in
            ap (λ b. cond b (mark ∷ filter test (first ∷ rest)) (filter test (first ∷ rest))) passes
            ∙ sym (put_first mark (filter test (first ∷ rest))
            (from_filter mark.1 (first ∷ rest) (h, from_less mark.1 first.1 rest h are.0))))
        | false ↦ (λ e.
            ap (λ ms. cond (test first) (first ∷ ms) ms) (filter_kept mark rest are.1 passes)
            ∙ elim (test first)
            as (λ b. cond b (first ∷ put_mark mark (filter test rest))
            (put_mark mark (filter test rest))
            ≡ put_mark mark (cond b (first ∷ filter test rest) (filter test rest))) [
              | true ↦ ap
                  (λ b. cond b (mark ∷ first ∷ filter test rest)
                  (first ∷ put_mark mark (filter test rest))) (sym e)
              | false ↦ refl
            ])
      ] refl

  -- those that pass are in the same order
  filter_order : (marks : List (ℕ × ℕ))
      → filter test (by_number marks) ≡ by_number (filter test marks)
  filter_order [] = refl
  filter_order (mark ∷ marks) =
      elim (test mark)
      as (λ b. test mark ≡ b
      → filter test (put_mark mark (by_number marks))
      ≡ by_number (cond b (mark ∷ filter test marks) (filter test marks))) [
        | true ↦ (λ e. filter_kept mark (by_number marks) (order_ordered marks) e
            ∙ ap (put_mark mark) (filter_order marks))
        | false ↦ (λ e. filter_cut mark (by_number marks) e ∙ filter_order marks)
      ] refl

filter_map_first : (test : ℕ → Bool) (marks : List (ℕ × ℕ))
    → filter test (map (λ mark. mark.0) marks)
    ≡ map (λ mark. mark.0) (filter (λ mark. test mark.0) marks)
filter_map_first test [] = refl
filter_map_first test (mark ∷ marks) =
    ap (λ cs. cond (test mark.0) (mark.0 ∷ cs) cs) (filter_map_first test marks)
    ∙ elim (test mark.0)
    as (λ b. cond b (mark.0 ∷ map (λ mark. mark.0) (filter (λ mark. test mark.0) marks))
    (map (λ mark. mark.0) (filter (λ mark. test mark.0) marks))
    ≡ map (λ mark. mark.0)
    (cond b (mark ∷ filter (λ mark. test mark.0) marks)
    (filter (λ mark. test mark.0) marks))) [
      | true ↦ refl
      | false ↦ refl
    ]

-- the checks that pass are those of the marks that pass
filter_marked : (test : ℕ → Bool) (marks : List (ℕ × ℕ))
    → filter test (checks_marked marks) ≡ checks_marked (filter (λ mark. test mark.0) marks)
filter_marked test marks = filter_map_first test (by_number marks)
    ∙ ap (map (λ mark. mark.0)) (filter_order (λ mark. test mark.0) marks)

-- where a mark doesn't pass it may as well be taken off
pub marked_cut : (test : ℕ → Bool) (marks : List (ℕ × ℕ)) (mark : ℕ × ℕ) → test mark.0 ≡ false
    → filter test (checks_marked (marks ++ mark ∷ [])) ≡ filter test (checks_marked marks)
marked_cut test marks mark fails =
    filter_marked test (marks ++ mark ∷ [])
    ∙ ap checks_marked
    (filter-append (λ m. test m.0) marks (mark ∷ [])
    ∙ ap (λ b. filter (λ m. test m.0) marks ++ cond b (mark ∷ []) []) fails
    ∙ nil (filter (λ m. test m.0) marks))
    ∙ sym (filter_marked test marks)
  where
    nil : (ms : List (ℕ × ℕ)) → ms ++ [] ≡ ms
    nil [] = refl
    nil (m ∷ ms) = ap (λ xs. m ∷ xs) (nil ms)

all_pass : (test : ℕ × ℕ → Bool) (marks : List (ℕ × ℕ)) → All (λ mark. test mark ≡ true) marks
    → filter test marks ≡ marks
all_pass test [] pass = refl
all_pass test (mark ∷ marks) pass =
    ap (λ b. cond b (mark ∷ filter test marks) (filter test marks)) (pass 0 mark (omega arith))
    ∙ ap (λ ms. mark ∷ ms) (all_pass test marks (λ k d l. pass (suc k) d (omega arith)))

-- where all pass, nothing is taken off
pub marked_all : (test : ℕ → Bool) (marks : List (ℕ × ℕ)) → All (λ mark. test mark.0 ≡ true) marks
    → checks_marked marks ≡ filter test (checks_marked marks)
marked_all test marks pass = ap checks_marked (sym (all_pass (λ mark. test mark.0) marks pass))
    ∙ sym (filter_marked test marks)

-- without the last of them they are numbered as before
pub numbered_front : (next : ℕ) (marks : List (ℕ × ℕ)) (mark : ℕ × ℕ)
    → AreNumberedBelow next (marks ++ mark ∷ []) → AreNumberedBelow next marks
numbered_front next [] mark are = tt
numbered_front next (first ∷ rest) mark are = (are.0, numbered_front next rest mark are.1)

at_end : (marks : List (ℕ × ℕ)) (mark : ℕ × ℕ)
    → slice_get (marks ++ mark ∷ []) (length marks) ≡ Some mark
at_end [] mark = refl
at_end (first ∷ rest) mark = at_end rest mark

-- the last one is the one that is read at the end
last_is : (marks : List (ℕ × ℕ)) (mark : ℕ × ℕ)
    → slice_get (marks ++ mark ∷ []) (length (marks ++ mark ∷ []) - 1) ≡ Some mark
last_is marks mark =
    let at : length (marks ++ mark ∷ []) - 1 ≡ length marks =
    omega (arith, length_push marks mark) in
    ap (slice_get (marks ++ mark ∷ [])) at ∙ at_end marks mark

is_there : (marks : List (ℕ × ℕ)) (i : ℕ) (mark : ℕ × ℕ) → slice_get marks i ≡ Some mark
    → 0 < length marks
is_there [] i mark at = absurd (false≢true (ap is_some at))
is_there (first ∷ rest) i mark at = omega arith

-- what is taken off the end is what was read there
pub popped_is : (popped : Option (ℕ × ℕ)) (old new : List (ℕ × ℕ)) (mark : ℕ × ℕ)
    → (IsSome popped ↔ (0 < length old)) → IfSome popped (λ p. old ≡ new ++ p ∷ [])
    → slice_get old (length old - 1) ≡ Some mark → old ≡ new ++ mark ∷ []
popped_is None old new mark variant removal at =
    absurd (false≢true (variant.1 (is_there old (length old - 1) mark at)))
popped_is (Some p) old new mark variant removal at =
    let same : p ≡ mark =
    same_Some p mark
    (sym (last_is new p) ∙ ap (λ es. slice_get es (length es - 1)) (sym removal) ∙ at) in
    removal ∙ ap (λ q. new ++ q ∷ []) same

-- ---- the latest

-- what holds of each key holds of each mark
pub keys_up_to : (c : ℕ) (marks : List (ℕ × ℕ))
    → All (λ k. is_lt (nat_cmp c k) ≡ false) (keys_of marks) → All (λ mark. mark.0 ≤ c) marks
keys_up_to c [] all = λ k d l. absurd (omega (arith, l))
keys_up_to c (mark ∷ marks) all =
    All-cons (λ m. m.0 ≤ c) mark marks (ge_from_not_lt c mark.0 (all 0 mark.0 (omega arith)))
    (keys_up_to c marks (λ k d l. all (suc k) d (omega (arith, l))))

none_above : (c : ℕ) (checks : List ℕ) → list_any (nat_lt c) checks ≡ false
    → All (λ check. check ≤ c) checks
none_above c [] none = λ k d l. absurd (omega (arith, l))
none_above c (check ∷ checks) none =
    All-cons (λ x. x ≤ c) check checks
    (ltb-false c check (or_first (nat_lt c check) (list_any (nat_lt c) checks) none))
    (none_above c checks (or_others (nat_lt c check) (list_any (nat_lt c) checks) none))

-- no check that was marked is above a check that is above no mark
pub marked_up_to : (c : ℕ) (marks : List (ℕ × ℕ)) → All (λ mark. mark.0 ≤ c) marks
    → All (λ check. check ≤ c) (checks_marked marks)
marked_up_to c marks all =
    none_above c (checks_marked marks)
    (any_marked (nat_lt c) marks
    ∙ list_any_none (λ mark. nat_lt c mark.0) marks
    (λ k d l. le-ltb c (get_or marks k d).0 (all k d l)))

-- the check of a mark was marked
pub marked_at : (c n i : ℕ) (marks : List (ℕ × ℕ)) → slice_get marks i ≡ Some (c, n)
    → list_any (λ check. check == c) (checks_marked marks) ≡ true
marked_at c n i marks at =
    any_marked (λ check. check == c) marks
    ∙ any_passes_from_place (λ (mark : ℕ × ℕ). eqb mark.0 c) marks i (c, n) at (eq-eqb c c refl)

-- where no check was marked there is no mark
pub marked_none : (marks : List (ℕ × ℕ)) → checks_marked marks ≡ [] → marks ≡ []
marked_none [] none = refl
marked_none (mark ∷ marks) none =
    absurd (false≢true
    (ap (list_any (λ check. check == mark.0)) (sym none)
    ∙ marked_at mark.0 mark.1 0 (mark ∷ marks) refl))
