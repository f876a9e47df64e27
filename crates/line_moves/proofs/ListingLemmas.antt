-- Rounds whose checks climb, and which of them a restart leaves.
use Rattle.std.proofs.Common.{◌≡◌, ℕ, zero, suc, ◌-◌, ◌<◌, ◌≤◌, Bool, true, false, cond, List, []}
use Rattle.std.proofs.Common.{◌∷◌, ◌++◌, length, take, get_or, filter, refl, sym, ap, ◌∙◌, arith}
use Rattle.std.proofs.Common.{inl, inr}
use Rattle.std.proofs.lemmas.Bool.{cases_lt, leb-true, le-leb}
use Rattle.std.proofs.lemmas.List.{get_or_default}
use Rattle.std.proofs.lemmas.List.Quantifiers.{all_pairs_push}
use Rattle.line_names.specs.declared.choices.Choice.{Choice}
use Rattle.line_names.specs.declared.choices.Choice.TheVariants.{Now, Check as AtCheck}
use Rattle.line_names.specs.Lines.{choice_at}
use Rattle.line_tape.specs.Restart.{is_kept}
use Rattle.line_laws.proofs.CompletionLemmas.{all_range}
use Rattle.line_laws.proofs.RoundLines.{in_range}
use Rattle.line_moves.specs.Listed.{ListedRound, check_in, stays}
use Rattle.line_moves.specs.Listings.{IsBelow, Climb}

-- an earlier check stays where a later one does
is_kept-below : (choice : Choice) (a b : ℕ) → a ≤ b → is_kept choice b ≡ true
    → is_kept choice a ≡ true
is_kept-below (AtCheck k) a b low t = le-leb a k (omega (arith, low, leb-true b k t))
is_kept-below Now a b low t = refl

-- a round stays where one above it does
pub stays-below : (line : List Choice) (a b : ListedRound) → IsBelow a b → stays line b ≡ true
    → stays line a ≡ true
stays-below line a b below t =
    all_range (λ (p : ℕ). is_kept (choice_at line p) (check_in a p)) 0 (length line)
    (λ v low high. is_kept-below (choice_at line v) (check_in a v) (check_in b v) (below v)
    (in_range (λ (p : ℕ). is_kept (choice_at line p) (check_in b p)) 0
    (length line) v t low high))

-- what passes a test is the front, where that passes and what comes after it fails
pub filter-front : (test : ListedRound → Bool) (xs : List ListedRound) (k : ℕ)
    → ((i : ℕ) (d : ListedRound) → i < k → i < length xs → test (get_or xs i d) ≡ true)
    → ((i : ℕ) (d : ListedRound) → k ≤ i → i < length xs → test (get_or xs i d) ≡ false)
    → filter test xs ≡ take k xs
filter-front test [] zero low high = refl
filter-front test [] (suc k) low high = refl
filter-front test (x ∷ xs) zero low high =
    let fails : test x ≡ false = high 0 x (omega arith) (omega arith) in
    ap (λ (b : Bool). cond b (x ∷ filter test xs) (filter test xs)) fails
    ∙ filter-front test xs zero (λ i d l h. absurd (omega (arith, l)))
    (λ i d l h. high (suc i) d (omega arith) (omega (arith, h)))
filter-front test (x ∷ xs) (suc k) low high =
    let passes : test x ≡ true = low 0 x (omega arith) (omega arith) in
    ap (λ (b : Bool). cond b (x ∷ filter test xs) (filter test xs)) passes
    ∙ ap (λ (ys : List ListedRound). x ∷ ys)
    (filter-front test xs k (λ i d l h. low (suc i) d (omega (arith, l)) (omega (arith, h)))
    (λ i d l h. high (suc i) d (omega (arith, l)) (omega (arith, h))))

-- where checks climb, the rounds up to one that stays are those that stay, if no later one does
pub staying-are : (line : List Choice) (rounds : List ListedRound) (end : ℕ) → Climb rounds
    → end ≤ length rounds
    → ((d : ListedRound) → 0 < end → stays line (get_or rounds (end - 1) d) ≡ true)
    → ((i : ℕ) (d : ListedRound) → end ≤ i → i < length rounds
    → stays line (get_or rounds i d) ≡ false) → filter (stays line) rounds ≡ take end rounds
staying-are line rounds end climb within last cut =
    filter-front (stays line) rounds end
    (λ i d l h. elim (cases_lt i (end - 1)) [
      | inl below ↦ stays-below line (get_or rounds i d) (get_or rounds (end - 1) d)
          (climb i (end - 1) d below (omega (arith, within, l))) (last d (omega (arith, l)))
      | inr past ↦ let same : i ≡ end - 1 = omega (arith, l, past) in
          ap (λ (k : ℕ). stays line (get_or rounds k d)) same ∙ last d (omega (arith, l))
    ])
    cut

-- rounds climb on by one above the last
pub Climb-push : (rounds : List ListedRound) (last round : ListedRound) → 0 < length rounds
    → last ≡ get_or rounds (length rounds - 1) last → Climb rounds → IsBelow last round
    → Climb (rounds ++ round ∷ [])
Climb-push rounds last round some is climb below =
    all_pairs_push IsBelow rounds round climb
    (λ k d within. elim (cases_lt k (length rounds - 1)) [
      | inl low ↦ λ (p : ℕ).
          let more : check_in (get_or rounds k last) p ≤ check_in (get_or rounds (length rounds - 1)
          last) p = climb k (length rounds - 1) last low (omega (arith, some)) p in
          let here : check_in (get_or rounds k d) p ≡ check_in (get_or rounds k last) p = ap
          (λ (a : ListedRound). check_in a p) (get_or_default rounds k d last within) in
          omega (arith, more, here, below p, ap (λ (a : ListedRound). check_in a p) is)
      | inr past ↦ let same : k ≡ length rounds - 1 = omega (arith, within, past) in
          λ (p : ℕ).
          let here : check_in (get_or rounds k d) p
          ≡ check_in last p = ap (λ (a : ListedRound). check_in a p) (get_or_default rounds k d
          last within ∙ ap (λ (j : ℕ). get_or rounds j last) same ∙ sym is) in
          omega (arith, here, below p)
    ])
