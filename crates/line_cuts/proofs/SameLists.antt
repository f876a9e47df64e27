-- Lists by their places.
use Rattle.std.proofs.Common.{◌≡◌, ℕ, suc, ◌<◌, List, [], ◌∷◌, length, get_or, refl, ap, ◌∙◌, arith}

-- lists of the same length with the same elements are the same
pub same_list : {X : Type 0} (d : X) (xs ys : List X) → length xs ≡ length ys
    → ((p : ℕ) → p < length xs → get_or xs p d ≡ get_or ys p d) → xs ≡ ys
same_list d [] [] long same = refl
same_list d [] (y ∷ ys) long same = absurd (omega arith)
same_list d (x ∷ xs) [] long same = absurd (omega arith)
same_list {X} d (x ∷ xs) (y ∷ ys) long same =
    ap (λ (v : X). v ∷ xs) (same 0 (omega arith)) ∙ ap (λ (v : List X). y ∷ v)
    (same_list d xs ys (omega arith) (λ p h. same (suc p) (omega arith)))
