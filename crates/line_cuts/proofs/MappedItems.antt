-- A list of which each element was mapped in its place.
use Rattle.std.proofs.Common.{zero, suc, ◌≡◌, ℕ, ◌+◌, ◌<◌, ◌≤◌, List, [], ◌∷◌, ◌++◌, length, map}
use Rattle.std.proofs.Common.{take, drop, set, get_or, refl, sym, ap, ◌∙◌, subst, arith}
use Rattle.std.specs.Global.{Vec}
use Rattle.std.specs.Vec.{with_item}
use Rattle.std.proofs.lemmas.List.{append-nil, drop_all, length-set, take_all}
use native.Mathlib.Nat.{ℕ_set}
use Rattle.std.specs.Coded.{le_prop}
use Rattle.line_cuts.specs.Numbers.{mapped_in_place}

fits_prop : (n c : ℕ) {X : Type 0} (ys : List X) → IsProp ((n ≡ length ys) × (n ≤ c))
fits_prop n c ys = hlevel (le_prop, ℕ_set)

abbrev pub Fits : {X : Type 0} → Vec X → List X → Type 0
Fits v ys = (v.len ≡ length ys) × (v.len ≤ v.cap)

abbrev pub holding : {X : Type 0} (v : Vec X) (ys : List X) → Fits v ys → Vec X
holding v ys fits = record v { items = ys; ok = fits }

pub along : {X : Type 0} (v : Vec X) (ys zs : List X) → ys ≡ zs → (p : Fits v ys) (q : Fits v zs)
    → holding v ys p ≡ holding v zs q
along {X} v ys zs e p = subst (λ (xs : List X). (q : Fits v xs) → holding v ys p ≡ holding v xs q) e
    (λ q. ap (λ (fits : Fits v ys). holding v ys fits) (fits_prop v.len v.cap ys p q))

pub mapped_same : {X : Type 0} (f : X → X) (v : Vec X) → map f v.items ≡ v.items
    → mapped_in_place f v ≡ v
mapped_same f v same = along v (map f v.items) v.items same (mapped_in_place f v).ok v.ok

-- the first i elements are mapped
abbrev pub mapped_up_to : {X : Type 0} → (X → X) → List X → ℕ → List X
mapped_up_to f xs i = map f (take i xs) ++ drop i xs

pub record IsMappedUpTo {X : Type 0} (f : X → X) (v : Vec X) (i : ℕ) (w : Vec X) : Type 0 where
  pub fits : Fits v (mapped_up_to f v.items i)
  pub is : w ≡ holding v (mapped_up_to f v.items i) fits

-- the element that is mapped next stands there as it was
mapped_get : {X : Type 0} (f : X → X) (xs : List X) (i : ℕ) (d : X) → i < length xs
    → get_or (mapped_up_to f xs i) i d ≡ get_or xs i d
mapped_get f [] i d within = absurd (omega arith)
mapped_get f (x ∷ xs) zero d within = refl
mapped_get f (x ∷ xs) (suc i) d within = mapped_get f xs i d (omega arith)

mapped_set : {X : Type 0} (f : X → X) (xs : List X) (i j : ℕ) (d : X) → i < length xs → j ≡ suc i
    → set (mapped_up_to f xs i) i (f (get_or xs i d)) ≡ mapped_up_to f xs j
mapped_set {X} f xs i j d within next = once xs i within ∙ ap (mapped_up_to f xs) (sym next)
  where
    once : (xs : List X) (i : ℕ) → i < length xs
        → set (mapped_up_to f xs i) i (f (get_or xs i d)) ≡ mapped_up_to f xs (suc i)
    once [] i within = absurd (omega arith)
    once (x ∷ xs) zero within = refl
    once (x ∷ xs) (suc i) within = ap (λ (v : List X). f x ∷ v) (once xs i (omega arith))

pub mapped_start : {X : Type 0} (f : X → X) (v : Vec X) → IsMappedUpTo f v 0 v
mapped_start f v = record { fits = v.ok; is = refl }

-- what is read there
pub mapped_read : {X : Type 0} (f : X → X) (v : Vec X) (i : ℕ) (w : Vec X) (d x : X)
    → IsMappedUpTo f v i w → i < length v.items → x ≡ get_or w.items i d → x ≡ get_or v.items i d
mapped_read {X} f v i w d x so_far within read = read ∙ ap
    (λ (u : Vec X). get_or u.items i d) so_far.is ∙ mapped_get f v.items i d within

-- and one element more
pub mapped_next : {X : Type 0} (f : X → X) (v : Vec X) (i : ℕ) (w : Vec X) (d x y : X)
    → IsMappedUpTo f v i w → i < length v.items → x ≡ get_or w.items i d → y ≡ f x
    → IsMappedUpTo f v (i + 1) (with_item w i y)
mapped_next {X} f v i w d x y so_far within read made =
    let ys : List X = mapped_up_to f v.items i in
    let zs : List X = mapped_up_to f v.items (i + 1) in
    let value : y
    ≡ f (get_or v.items i d) = made ∙ ap f (mapped_read f v i w d x so_far within read) in
    let items : set ys i y ≡ zs = ap (λ (u : X). set ys i u) value ∙ mapped_set f v.items i
    (i + 1) d within (omega arith) in
    let first : Fits v (set ys i y) = (so_far.fits.0 ∙ sym (length-set ys i y), so_far.fits.1) in
    let fits : Fits v zs = subst (Fits v) items first in
    record {
      fits = fits;
      is = ap (λ (u : Vec X). with_item u i y) so_far.is ∙ along v (set ys i y) zs items first fits;
    }

-- all
pub mapped_end : {X : Type 0} (f : X → X) (v : Vec X) (i : ℕ) (w : Vec X) → IsMappedUpTo f v i w
    → length v.items ≤ i → w ≡ mapped_in_place f v
mapped_end {X} f v i w so_far past =
    let items : mapped_up_to f v.items i
    ≡ map f v.items = ap (λ (xs : List X). map f xs ++ drop i v.items)
    (take_all i v.items past) ∙ ap (λ (xs : List X). map f v.items ++ xs)
    (drop_all i v.items past) ∙ append-nil (map f v.items) in
    so_far.is ∙ along v (mapped_up_to f v.items i) (map f v.items) items so_far.fits
    (mapped_in_place f v).ok
