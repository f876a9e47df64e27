-- The bytes of a chunk that end a field, as the bits of its mask.
use Rattle.std.proofs.Common.{◌≡◌, ◌≤◌, ◌<◌, ◌==◌, ◌||◌, ◌∙◌, ◌∷◌, ◌+◌, ◌-◌, ◌*◌, ◌/◌, ◌%◌, ◌^◌, ℕ}
use Rattle.std.proofs.Common.{List, [], Bool, true, false, not, cond, eqb, length, drop, take, map}
use Rattle.std.proofs.Common.{get_or, replicate, refl, ap, ap₂, sym, inl, inr, arith, zero, suc}
use Rattle.std.specs.List.{prefix_len}
use Rattle.std.proofs.Math.Nat.{div-div-eq-div-mul}
use Rattle.std.proofs.lemmas.Bool.{cases_Bool}
use Rattle.std.proofs.lemmas.List.{drop-drop, drop-map, drop-take, length-map}
use Rattle.std.proofs.lemmas.Simd.{length-chunk, mask_l-mod, run_in_chunk_fails, run_in_chunk_stops}
use Rattle.std.proofs.lemmas.Simd.{trailing_mask_l, zip2-map, zip2_splat}
use lib.Bits.{bit_or}
use lib.Count.{count_trailing_zeros}
use lib.Lanes.{chunk, mask_l, top, zip2}
use Rattle.line_fields.specs.Rows.{is_mark}

-- a lane of all bits where two numbers are the same
abbrev hit : ℕ → ℕ → ℕ
hit a b = cond (eqb a b) 255 0

-- the lane of a byte, compared with the three marks
abbrev lane : ℕ → ℕ
lane b = bit_or (bit_or (hit b 44) (hit b 10)) (hit b 13)

any_of_three : (a b c : Bool)
    → top 7 (bit_or (bit_or (cond a 255 0) (cond b 255 0)) (cond c 255 0)) ≡ (a || (b || c))
any_of_three true true true = refl
any_of_three true true false = refl
any_of_three true false true = refl
any_of_three true false false = refl
any_of_three false true true = refl
any_of_three false true false = refl
any_of_three false false true = refl
any_of_three false false false = refl

lanes_are : (v : List ℕ) → map (top 7) (map lane v) ≡ map is_mark v
lanes_are [] = refl
lanes_are (b ∷ rest) =
    ap₂ (λ x xs. x ∷ xs) (any_of_three (b == 44) (b == 10) (b == 13)) (lanes_are rest)

lanes_of : (v : List ℕ) (n : ℕ) → length v ≡ n
    → zip2 bit_or (zip2 bit_or (zip2 hit v (replicate n 44)) (zip2 hit v (replicate n 10)))
    (zip2 hit v (replicate n 13)) ≡ map lane v
lanes_of v n long =
    ap₂ (zip2 bit_or) (ap₂ (zip2 bit_or) (zip2_splat hit v n 44 long) (zip2_splat hit v n 10 long) ∙
    zip2-map bit_or (λ b. hit b 44) (λ b. hit b 10) v) (zip2_splat hit v n 13 long)
    ∙ zip2-map bit_or (λ b. bit_or (hit b 44) (hit b 10)) (λ b. hit b 13) v

-- the mask of a chunk that is compared with the three marks
pub marks_are : (v : List ℕ) (n : ℕ) → length v ≡ n → n ≤ 64
    → mask_l (map (top 7) (zip2 bit_or (zip2 bit_or (zip2 hit v (replicate n 44)) (zip2 hit v
    (replicate n 10))) (zip2 hit v (replicate n 13)))) % 2 ^ 64 ≡ mask_l (map is_mark v)
marks_are v n long short =
    ap (λ (ms : List Bool). mask_l ms % 2 ^ 64) (ap (map (top 7)) (lanes_of v n long) ∙ lanes_are v)
    ∙ mask_l-mod (map is_mark v) 64 (omega (arith, length-map v is_mark, long, short))

-- where a bit is set, a byte passes
some_passes : (p : ℕ → Bool) (xs : List ℕ) → 0 < mask_l (map p xs)
    → prefix_len (λ x. not (p x)) xs < length xs
some_passes p [] some = absurd (omega (arith, some))
some_passes p (x ∷ xs) some = elim (cases_Bool (p x)) [
  | inl e ↦ rw e (omega arith)
  | inr e ↦
      let bit : ℕ = cond (p x) 1 0 in
      let unset : bit ≡ 0 = rw e refl in
      let others : 0 < mask_l (map p xs) = omega (arith, some, unset) in
      let rest = some_passes p xs others in
      rw e (omega (arith, rest))
]

half : (b : Bool) (n : ℕ) → (cond b 1 0 + 2 * n) / 2 ≡ n
half true n = omega arith
half false n = omega arith

double : (k : ℕ) → 2 ^ suc k ≡ 2 * 2 ^ k
double k = omega arith

nothing_over : (n : ℕ) → 0 / n ≡ 0
nothing_over n = omega arith

-- a mask without its lowest bits
mask_after : (ms : List Bool) (k : ℕ) → mask_l ms / 2 ^ k ≡ mask_l (drop k ms)
mask_after ms zero = omega arith
mask_after [] (suc k) = nothing_over (2 ^ suc k)
mask_after (b ∷ ms) (suc k) =
    ap (λ (n : ℕ). mask_l (b ∷ ms) / n) (double k) ∙ sym (div-div-eq-div-mul (mask_l (b ∷ ms)) 2
    (2 ^ k)) ∙ ap (λ (n : ℕ). n / 2 ^ k) (half b (mask_l ms)) ∙ mask_after ms k

-- a chunk without its first elements
chunk_after : (i n k : ℕ) (xs : List ℕ) → k ≤ n → drop k (chunk i n xs) ≡ chunk (i + k) (n - k) xs
chunk_after i n k xs le =
    let parts : n ≡ k + (n - k) = omega (arith, le) in
    ap (λ (m : ℕ). drop k (take m (drop i xs))) parts ∙ drop-take k (n - k) (drop i xs) ∙ ap
    (take (n - k)) (drop-drop k i xs)

-- the lowest bit of a mask is the first byte that ends a field, and what is left of the mask is
-- that of the bytes behind
pub record IsFirstMark (text : List ℕ) (next n before rest : ℕ) : Type 0 where
  pub within : before < n
  pub none : (k : ℕ) → next ≤ k → k < next + before → is_mark (get_or text k 0) ≡ false
  pub there : is_mark (get_or text (next + before) 0) ≡ true
  pub left : rest ≡ mask_l (map is_mark (chunk (next + (before + 1)) (n - (before + 1)) text))

pub first_mark : (text : List ℕ) (next n marks : ℕ) → next + n ≤ length text → n ≤ 64
    → marks ≡ mask_l (map is_mark (chunk next n text)) → 0 < marks
    → IsFirstMark text next n (count_trailing_zeros 64 marks)
    (marks / 2 ^ (count_trailing_zeros 64 marks + 1))
first_mark text next n marks room short is some =
    let v : List ℕ = chunk next n text in
    let long : length v ≡ n = length-chunk next n text room in
    let bit : 0 < mask_l (map is_mark v) = omega (arith, is, some) in
    let r : ℕ = count_trailing_zeros 64 marks in
    let counted : r ≡ prefix_len (λ x. not (is_mark x)) v = ap (count_trailing_zeros 64) is ∙
    trailing_mask_l is_mark 64 v (omega (arith, long, short)) bit in
    let passes = some_passes is_mark v bit in
    let within : r < n = omega (arith, counted, passes, long) in
    record {
      within = within;
      none = run_in_chunk_fails is_mark text next n r 0 room counted;
      there = run_in_chunk_stops is_mark text next n r 0 room counted within;
      left =
          ap (λ (m : ℕ). m / 2 ^ (r + 1)) is ∙ mask_after (map is_mark v) (r + 1) ∙ ap mask_l
          (drop-map is_mark (r + 1) v)
          ∙ ap (λ (xs : List ℕ). mask_l (map is_mark xs))
          (chunk_after next n (r + 1) text (omega (arith, within)));
    }
