-- Of lists alone: what one element more changes, and where an element stands.
use Rattle.std.proofs.Common.{◌≡◌, ℕ, zero, suc, ◌<◌, Bool, true, false, List, [], ◌∷◌, ◌++◌}
use Rattle.std.proofs.Common.{length, refl, ap, ◌∙◌, arith, inl, inr, Some, ◌⊎◌}
use Rattle.std.specs.Prelude.{◌||◌}
use Rattle.std.specs.List.{list_any, slice_get, Contains}
use Rattle.std.proofs.lemmas.List.Folds.{list_any-append}
use Rattle.std.proofs.lemmas.Option.{slice_get_within, get_or_from_slice_get}

pub or-false : (b : Bool) → (b || false) ≡ b
or-false true = refl
or-false false = refl

pub any_push : {X : Type 0} (f : X → Bool) (xs : List X) (y : X)
    → list_any f (xs ++ y ∷ []) ≡ (list_any f xs || f y)
any_push f xs y = list_any-append f xs (y ∷ []) ∙ ap (λ b. list_any f xs || b) (or-false (f y))

-- what a list has at a place of its first part, that part has there
pub slice_get_front : {X : Type 0} (xs ys : List X) (k : ℕ) (x : X) → k < length xs
    → slice_get (xs ++ ys) k ≡ Some x → slice_get xs k ≡ Some x
slice_get_front [] ys k x l e = absurd (omega arith)
slice_get_front (z ∷ xs) ys zero x l e = e
slice_get_front (z ∷ xs) ys (suc k) x l e = slice_get_front xs ys k x (omega arith) e

pub contains_at : {X : Type 0} (xs : List X) (i : ℕ) (x : X) → slice_get xs i ≡ Some x
    → Contains xs x
contains_at xs i x e = (i, slice_get_within xs i x e, get_or_from_slice_get xs i x x e)

pub slice_get_push : {X : Type 0} (xs : List X) (y x : X) (i : ℕ) → slice_get (xs ++ y ∷ []) i
    ≡ Some x → ((i < length xs) × (slice_get xs i ≡ Some x)) ⊎ ((i ≡ length xs) × (y ≡ x))
slice_get_push [] y x zero e = inr (refl, cc)
slice_get_push [] y x (suc i) e = absurd (cc)
slice_get_push (z ∷ xs) y x zero e = inl (omega arith, e)
slice_get_push (z ∷ xs) y x (suc i) e = elim (slice_get_push xs y x i e) [
  | inl a ↦ inl (omega (arith, a.0), a.1)
  | inr b ↦ inr (ap suc b.0, b.1)
]
