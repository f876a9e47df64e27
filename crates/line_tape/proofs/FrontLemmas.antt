-- A later choice has the longer front, and so more that is sent and received before it.
use Rattle.std.proofs.Common.{◌≡◌, ℕ, zero, suc, ◌<◌, ◌≤◌, true, false, cond, List, [], ◌∷◌, ◌++◌}
use Rattle.std.proofs.Common.{length, take, drop, Some, sym, ap, ◌∙◌, arith}
use Rattle.std.specs.List.{filter_map, slice_get, Contains}
use Rattle.std.proofs.lemmas.List.{length-take, get_or-take, take-append-drop, take-take}
use Rattle.std.proofs.lemmas.List.Elements.{filter_map-append}
use Rattle.line_names.specs.declared.choices.Choice.{Choice}
use Rattle.line_names.specs.declared.choices.Choice.TheVariants.{Check as AtCheck, Now}
use Rattle.line_names.specs.Order.{IsNoLater}
use Rattle.line_tape.specs.declared.events.Event.{Event}
use Rattle.line_tape.specs.Event.{is_check, incarnation_of, incarnations_sent, Holds}
use Rattle.line_tape.specs.Front.{check_place, place}

-- a later check has the further place
pub check_place-mono : (tape : List Event) (a b : ℕ) → a ≤ b
    → check_place tape a ≤ check_place tape b
check_place-mono tape zero b h = omega arith
check_place-mono [] (suc a) b h = omega arith
check_place-mono (event ∷ rest) (suc a) zero h = absurd (omega arith)
check_place-mono (event ∷ rest) (suc a) (suc b) h =
    let next : cond (is_check event) a (suc a) ≤ cond (is_check event) b (suc b) = elim
    (is_check event) as
    (λ v. cond v a (suc a) ≤ cond v b (suc b)) [ true ↦ omega arith | false ↦ omega arith ] in
    omega (arith, check_place-mono rest _ _ next)

-- no check stands past the end
pub check_place-le : (tape : List Event) (c : ℕ) → check_place tape c ≤ length tape
check_place-le tape zero = omega arith
check_place-le [] (suc c) = omega arith
check_place-le (event ∷ rest) (suc c) =
    omega (arith, check_place-le rest (cond (is_check event) c (suc c)))

-- a later choice has the further place
pub place-mono : (tape : List Event) (a b : Choice) → IsNoLater a b → place tape a ≤ place tape b
place-mono tape (AtCheck a) (AtCheck b) h = check_place-mono tape a b h
place-mono tape (AtCheck a) Now h = check_place-le tape a
place-mono tape Now (AtCheck b) h = absurd h
place-mono tape Now Now h = omega arith

-- no choice stands past the end
pub place_le : (tape : List Event) (choice : Choice) → place tape choice ≤ length tape
place_le tape (AtCheck c) = check_place-le tape c
place_le tape Now = omega arith

-- what the first elements contain, more of them contain
pub Contains-take_more : {X : Type 0} (xs : List X) (i j : ℕ) (x : X) → i ≤ j
    → Contains (take i xs) x → Contains (take j xs) x
Contains-take_more xs i j x h (k, within, is) =
    let below_i : k < i = omega (arith, length-take i xs) in
    let below_j : k < j = omega arith in (
      k,
      omega (arith, length-take i xs, length-take j xs),
      get_or-take j xs k x below_j ∙ sym
          (get_or-take i xs k x below_i) ∙ is,
    )

-- what a list has at a place, a longer one has there
pub slice_get-append_left : {X : Type 0} (xs ys : List X) (k : ℕ) (x : X) → slice_get xs k ≡ Some x
    → slice_get (xs ++ ys) k ≡ Some x
slice_get-append_left [] ys k x e = absurd (cc)
slice_get-append_left (z ∷ xs) ys zero x e = e
slice_get-append_left (z ∷ xs) ys (suc k) x e = slice_get-append_left xs ys k x e

-- what the first events hold, more of them hold
pub Holds-take_more : (tape : List Event) (i j inc number : ℕ) → i ≤ j
    → Holds (take i tape) inc number → Holds (take j tape) inc number
Holds-take_more tape i j inc number h held =
    let split : take i tape ++ drop i (take j tape) ≡ take j tape = ap (λ xs. xs
    ++ drop i (take j tape)) (sym (take-take i j tape h)) ∙ take-append-drop i (take j tape) in
    let parts = filter_map-append incarnation_of (take i tape) (drop i (take j tape)) in
    ap (λ xs. slice_get (filter_map incarnation_of xs) number) (sym split) ∙ ap
    (λ xs. slice_get xs number) parts ∙ slice_get-append_left (incarnations_sent (take i tape))
    (filter_map incarnation_of (drop i (take j tape))) number inc held
