-- Lists made of ranges, and tests over them.
use Rattle.std.proofs.Common.{◌≡◌, ℕ, zero, suc, ◌+◌, ◌<◌, ◌≤◌, Bool, false, ◌||◌, List, [], ◌∷◌}
use Rattle.std.proofs.Common.{map, refl, ap, ◌∙◌, arith}
use Rattle.std.specs.List.{list_any, range_with_len}

-- the same is made of each number of a range
pub map_same : {X : Type 0} (f g : ℕ → X) (a n : ℕ) → ((v : ℕ) → a ≤ v → v < a + n → f v ≡ g v)
    → map f (range_with_len a n) ≡ map g (range_with_len a n)
map_same f g a zero same = refl
map_same {X} f g a (suc n) same = ap (λ (v : X). v ∷ map f (range_with_len (a + 1) n))
    (same a (omega arith) (omega arith)) ∙ ap (λ (v : List X). g a ∷ v)
    (map_same f g (a + 1) n (λ v l h. same v (omega arith) (omega arith)))

-- tests that agree, and one that nothing passes
pub any_same : (f g : ℕ → Bool) (xs : List ℕ) → ((v : ℕ) → f v ≡ g v)
    → list_any f xs ≡ list_any g xs
any_same f g [] same = refl
any_same f g (x ∷ xs) same =
    ap (λ b. b || list_any f xs) (same x) ∙ ap (λ b. g x || b) (any_same f g xs same)

pub any_none : (f : ℕ → Bool) (xs : List ℕ) → ((v : ℕ) → f v ≡ false) → list_any f xs ≡ false
any_none f [] none = refl
any_none f (x ∷ xs) none = ap (λ b. b || list_any f xs) (none x) ∙ any_none f xs none
