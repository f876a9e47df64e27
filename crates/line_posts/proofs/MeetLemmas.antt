-- Workers in a list, met one after another.
use Rattle.std.proofs.Common.{zero, suc, ◌≡◌, ◌∙◌, ◌+◌, ◌<◌, ◌++◌, ◌∷◌, [], ℕ, List, Some, length}
use Rattle.std.proofs.Common.{get_or, set, refl, sym, ap, inl, inr, arith, subst}
use Rattle.std.specs.Prelude.{slice_get}
use Rattle.std.proofs.lemmas.Bool.{cases_lt}
use Rattle.std.proofs.lemmas.List.{set-get_or}
use Rattle.std.proofs.lemmas.Option.{slice_get_read, same_Some}
use Rattle.line_tape.proofs.ListLemmas.{slice_get_push}
use Rattle.line_posts.specs.Posts.{PostView}
use Rattle.line_posts.specs.Generations.{AreLinkedTwo, IsGeneration}
use Rattle.line_posts.specs.Gathering.{AreMet, AreMetTwo}

pub there : {X : Type 0} (xs ys : List X) (j : ℕ) (other : X) → xs ≡ ys → j < length xs
    → other ≡ get_or xs j other → slice_get ys j ≡ Some other
there xs ys j other same lt at =
    ap (λ t. slice_get t j) (sym same) ∙ slice_get_read xs (length xs) j other refl lt at

pub linked_there : (start one : PostView) (xs ys : List PostView) (j n : ℕ) (other : PostView)
    → one ≡ start → xs ≡ ys → j < n → n ≡ length ys → other ≡ get_or xs j other
    → ((k : ℕ) (o : PostView) → slice_get ys k ≡ Some o → AreLinkedTwo start o)
    → AreLinkedTwo one other
linked_there start one xs ys j n other e same lt long at h =
    let l = ap length same in
    subst (λ t. AreLinkedTwo t other) (sym e)
    (h j other (there xs ys j other same (omega (arith, lt, long, l)) at))

pub set_back : {X : Type 0} (xs ys : List X) (j : ℕ) (other new : X) → xs ≡ ys
    → other ≡ get_or xs j other → new ≡ other → set xs j new ≡ ys
set_back xs ys j other new same at back = ap (set xs j) (back ∙ at) ∙ (set-get_or xs j other ∙ same)

pub met_more : (one : PostView) (others : List PostView) (j : ℕ) (other : PostView)
    → slice_get others j ≡ Some other → AreMetTwo one other → AreMetTwo other one
    → ((k : ℕ) (o : PostView) → k < j → slice_get others k ≡ Some o
    → AreMetTwo one o × AreMetTwo o one)
    → (k : ℕ) (o : PostView) → k < j + 1 → slice_get others k ≡ Some o
    → AreMetTwo one o × AreMetTwo o one
met_more one others j other at m n before k o lt here = elim (cases_lt k j) [
  | inl less ↦ before k o less here
  | inr ge ↦
      let same : j ≡ k = omega (arith, ge, lt) in
      let e : other ≡ o = same_Some _ _ (sym at ∙ (ap (slice_get others) same ∙ here)) in
      subst (λ t. AreMetTwo one t × AreMetTwo t one) e (m, n)
]

pub get_below : {X : Type 0} (rest : List X) (last : X) (i : ℕ) (a : X) → slice_get rest i ≡ Some a
    → slice_get (rest ++ last ∷ []) i ≡ Some a
get_below [] last i a e = cc e
get_below (x ∷ xs) last zero a e = e
get_below (x ∷ xs) last (suc i) a e = get_below xs last i a e

pub get_last : {X : Type 0} (rest : List X) (last : X)
    → slice_get (rest ++ last ∷ []) (length rest) ≡ Some last
get_last [] last = refl
get_last (x ∷ xs) last = get_last xs last

module _ (posts rest : List PostView) (last : PostView) (is : posts ≡ rest ++ last ∷ []) where
  in_rest : (i : ℕ) (a : PostView) → slice_get rest i ≡ Some a → slice_get posts i ≡ Some a
  in_rest i a h = ap (λ t. slice_get t i) is ∙ get_below rest last i a h

  at_last : slice_get posts (length rest) ≡ Some last
  at_last = ap (λ t. slice_get t (length rest)) is ∙ get_last rest last

  pub fewer : IsGeneration posts → IsGeneration rest
  fewer h i j a b ha hb = h i j a b (in_rest i a ha) (in_rest j b hb)

  pub last_linked : IsGeneration posts → (j : ℕ) (other : PostView) → slice_get rest j ≡ Some other
      → AreLinkedTwo last other
  last_linked h j other at = h (length rest) j last other at_last (in_rest j other at)

  pub self_linked : IsGeneration posts → AreLinkedTwo last last
  self_linked h = h (length rest) (length rest) last last at_last at_last

  pub all_met : AreMetTwo last last → ((j : ℕ) (other : PostView) → slice_get rest j ≡ Some other
      → AreMetTwo last other × AreMetTwo other last) → AreMet rest → AreMet posts
  all_met self each met i j a b ha hb =
      elim (slice_get_push rest last a i (ap (λ t. slice_get t i) (sym is) ∙ ha)) [
        | inl (li, ra) ↦ elim
            (slice_get_push rest last b j (ap (λ t. slice_get t j) (sym is) ∙ hb)) [
              | inl (lj, rb) ↦ met i j a b ra rb
              | inr (ej, e) ↦ subst (λ t. AreMetTwo a t) e ((each i a ra).1)
            ]
        | inr (ei, d) ↦ elim
            (slice_get_push rest last b j (ap (λ t. slice_get t j) (sym is) ∙ hb)) [
              | inl (lj, rb) ↦ subst (λ t. AreMetTwo t b) d ((each j b rb).0)
              | inr (ej, e) ↦ subst (λ t. AreMetTwo t b) d (subst (λ t. AreMetTwo last t) e self)
            ]
      ]
