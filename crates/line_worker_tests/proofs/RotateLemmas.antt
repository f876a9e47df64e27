-- Workers in another order.
use Rattle.std.proofs.Common.{◌≡◌, ◌<◌, ◌++◌, ◌∷◌, [], zero, suc, ℕ, List, Some, length, ap, sym}
use Rattle.std.proofs.Common.{subst, inl, inr, arith}
use Rattle.std.proofs.lemmas.List.{length_push}
use Rattle.std.specs.Prelude.{slice_get}
use Rattle.line_tape.proofs.ListLemmas.{slice_get_push}
use Rattle.line_posts.specs.Collected.{CollectorView}
use Rattle.line_posts.specs.Generations.{AreLined, IsGeneration}
use Rattle.line_posts.specs.Posts.{PostView}

-- each of them was among the others before
rotated_at : {X : Type 0} (first : X) (others : List X) (i : ℕ) (x : X)
    → slice_get (others ++ first ∷ []) i ≡ Some x
    → (k : ℕ) × (slice_get (first ∷ others) k ≡ Some x)
rotated_at first others i x at = elim (slice_get_push others first x i at) [
  | inl (less, here) ↦ (suc i, here)
  | inr (last, same) ↦ (zero, ap (λ v. Some v) same)
]

was_at : (old new : List PostView) (first : PostView) (others : List PostView) → old ≡ first
    ∷ others → new ≡ others ++ first ∷ [] → (i : ℕ) (x : PostView) → slice_get new i ≡ Some x
    → (k : ℕ) × (slice_get old k ≡ Some x)
was_at old new first others before after i x at =
    let (k, here) = rotated_at first others i x (subst (λ t. slice_get t i ≡ Some x) after at) in
    (k, subst (λ t. slice_get t k ≡ Some x) (sym before) here)

pub rotated_generation : (old new : List PostView) (first : PostView) (others : List PostView)
    → old ≡ first ∷ others → new ≡ others ++ first ∷ [] → IsGeneration old → IsGeneration new
rotated_generation old new first others before after is i j a b hi hj =
    let (k, hk) = was_at old new first others before after i a hi in
    let (l, hl) = was_at old new first others before after j b hj in
    is k l a b hk hl

pub rotated_lined : (collector : CollectorView) (old new : List PostView) (first : PostView) (others
    : List PostView) → old ≡ first ∷ others → new ≡ others ++ first ∷ [] → AreLined collector old
    → AreLined collector new
rotated_lined collector old new first others before after lined i a hi =
    let (k, hk) = was_at old new first others before after i a hi in
    lined k a hk

pub rotated_some : (new : List PostView) (first : PostView) (others : List PostView)
    → new ≡ others ++ first ∷ [] → 0 < length new
rotated_some new first others after =
    let more = length_push others first in
    rw after (omega (arith, more))
