-- The field at a place is the one that csv finds there, or empty.
use Rattle.std.proofs.Common.{◌≡◌, ℕ, zero, suc, List, [], ◌∷◌, Option, refl, ap, ◌∙◌}
use Rattle.std.specs.Prelude.{unwrap_or}
use Rattle.csv.specs.Records.{field_at}
use Rattle.line_fields.specs.Records.{field}

field_is : (xs : List (List ℕ)) (i : ℕ) → unwrap_or (field_at xs i) [] ≡ field xs i
unfolding field_at
field_is [] i = refl
field_is (x ∷ xs) zero = refl
field_is (x ∷ xs) (suc i) = field_is xs i

pub field_found : (xs : List (List ℕ)) (i : ℕ) (o : Option (List ℕ)) → o ≡ field_at xs i
    → unwrap_or o [] ≡ field xs i
field_found xs i o e = ap (λ (p : Option (List ℕ)). unwrap_or p []) e ∙ field_is xs i
