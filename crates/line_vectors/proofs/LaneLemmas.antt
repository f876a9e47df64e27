-- Lanes of two lists, and blocks of eight of them.
use Rattle.std.proofs.Common.{◌≡◌, ◌≤◌, ◌<◌, ◌+◌, ◌-◌, ◌^◌, ◌%◌, ◌≢◌, ℕ, zero, suc, List, [], ◌∷◌}
use Rattle.std.proofs.Common.{Bool, true, false, not, cond, length, get_or, map, take, drop, ltb}
use Rattle.std.proofs.Common.{max, w32, w64, refl, sym, ◌∙◌, ap, subst, inl, inr, arith}
use Rattle.std.specs.Prelude.{count_by}
use Rattle.std.specs.List.{prefix_len}
use Rattle.std.specs.Int.RustNames.{count_ones}
use Rattle.std.specs.Int.{trailing_zeros}
use Rattle.std.proofs.lemmas.List.{ext_get_or, map-id}
use Rattle.std.proofs.lemmas.List.Sums.{sum_by-append, count_by-le-length, count_by_more_yes}
use Rattle.std.proofs.lemmas.List.Sums.{count_by_more_no}
use Rattle.std.proofs.Common.{take-add}
use Rattle.std.proofs.lemmas.Bool.Decides.{nat_tests, leb_tells}
use Rattle.std.proofs.lemmas.Simd.{tops_compared, get_or-zip2, length-zip2, length-chunk}
use Rattle.std.proofs.lemmas.Simd.{get_or-chunk, get_or-put_chunk_below, get_or-put_chunk_at}
use Rattle.std.proofs.lemmas.Simd.{get_or-put_chunk_above, length-put_chunk, mask_l-mod}
use Rattle.std.proofs.lemmas.Simd.{ones-mask_l, trailing_mask_l, run_in_chunk_fails}
use Rattle.std.proofs.lemmas.Simd.{run_in_chunk_stops, none_from_empty_mask}
use Rattle.std.specs.Simd.Lanes.{zip2, sel_l, chunk, mask_l, top, put_chunk}
use Rattle.line_vectors.specs.Blocks.{HasGreaterOn, over_bits_of}
use Rattle.line_vectors.specs.Lanes.{greater_of, overs, HasNoneOverBefore, IsFirstOver, over_count}

-- the greater of two, as the comparison picks it
pub max_is : (x y : ℕ) → cond (ltb x y) y x ≡ max x y
max_is x y = grind (arith, nat_tests)

-- the lanes that a selection by `<` picks
pub greater_sel : (xs ys : List ℕ) → sel_l (zip2 ltb xs ys) ys xs ≡ greater_of xs ys
greater_sel [] ys = refl
greater_sel (x ∷ xs) [] = refl
greater_sel (x ∷ xs) (y ∷ ys) = rw (max_is x y, greater_sel xs ys) refl

-- the comparison of the second list with the first tells where the first is over
pub overs_flip : (xs ys : List ℕ) → zip2 ltb ys xs ≡ overs xs ys
overs_flip [] [] = refl
overs_flip [] (y ∷ ys) = refl
overs_flip (x ∷ xs) [] = refl
overs_flip (x ∷ xs) (y ∷ ys) = ap (λ t. ltb y x ∷ t) (overs_flip xs ys)

-- ---- the front, the rest and a block of two lists put together

zip2-nil : {X Y Z : Type 0} (f : X → Y → Z) (xs : List X) → zip2 f xs [] ≡ []
zip2-nil f [] = refl
zip2-nil f (x ∷ xs) = refl

take-zip2 : {X Y Z : Type 0} (f : X → Y → Z) (n : ℕ) (xs : List X) (ys : List Y)
    → take n (zip2 f xs ys) ≡ zip2 f (take n xs) (take n ys)
take-zip2 f zero xs ys = refl
take-zip2 f (suc n) [] ys = refl
take-zip2 f (suc n) (x ∷ xs) [] = refl
take-zip2 f (suc n) (x ∷ xs) (y ∷ ys) = ap (λ t. f x y ∷ t) (take-zip2 f n xs ys)

drop-zip2 : {X Y Z : Type 0} (f : X → Y → Z) (n : ℕ) (xs : List X) (ys : List Y)
    → drop n (zip2 f xs ys) ≡ zip2 f (drop n xs) (drop n ys)
drop-zip2 f zero xs ys = refl
drop-zip2 f (suc n) [] ys = refl
drop-zip2 f (suc n) (x ∷ xs) [] = sym (zip2-nil f (drop n xs))
drop-zip2 f (suc n) (x ∷ xs) (y ∷ ys) = drop-zip2 f n xs ys

pub chunk-zip2 : {X Y Z : Type 0} (f : X → Y → Z) (i n : ℕ) (xs : List X) (ys : List Y)
    → chunk i n (zip2 f xs ys) ≡ zip2 f (chunk i n xs) (chunk i n ys)
chunk-zip2 f i n xs ys =
    ap (λ t. take n t) (drop-zip2 f i xs ys) ∙ take-zip2 f n (drop i xs) (drop i ys)

-- what the comparison of two loads of eight lanes makes
pub over_bits_are : (at : ℕ) (a b : List ℕ) → at + 8 ≤ length a → at + 8 ≤ length b
    → mask_l (map (top 31) (zip2 (λ x y. cond (ltb x y) (2 ^ 32 - 1) 0) (chunk at 8 b)
    (chunk at 8 a))) % 2 ^ 64 ≡ over_bits_of a b at
over_bits_are at a b la lb =
    let long : length (overs (chunk at 8 a) (chunk at 8 b))
    ≡ 8 = length-zip2 (λ x y. ltb y x) (chunk at 8 a) (chunk at 8 b)
    (length-chunk at 8 a la ∙ sym (length-chunk at 8 b lb)) ∙ length-chunk at 8 a la in
    ap (λ t. mask_l t % 2 ^ 64) (tops_compared w32 ltb (chunk at 8 b) (chunk at 8 a) ∙ overs_flip
    (chunk at 8 a) (chunk at 8 b))
    ∙ (mask_l-mod (overs (chunk at 8 a) (chunk at 8 b)) 64 (omega (arith, long))
    ∙ ap mask_l (sym (chunk-zip2 (λ x y. ltb y x) at 8 a b) ∙ sym
    (map-id (chunk at 8 (overs a b)))))

-- ---- the greater of both, from 0 up to a place

-- a block is written
pub greater_on_block : (at : ℕ) (a b : List ℕ) → at + 8 ≤ length a → at + 8 ≤ length b
    → HasGreaterOn a (put_chunk at a (greater_of (chunk at 8 a) (chunk at 8 b))) b at (at + 8)
greater_on_block at a b la lb =
    let ca = length-chunk at 8 a la in
    let cb = length-chunk at 8 b lb in
    let ys = greater_of (chunk at 8 a) (chunk at 8 b) in
    let long : length ys ≡ 8 = length-zip2 max (chunk at 8 a) (chunk at 8 b) (ca ∙ sym cb) ∙ ca in
    record {
      len = length-put_chunk at a ys;
      inside = (λ k lo hi.
          let j = k - at in
          let jk : at + j ≡ k = omega (arith, lo) in
          let lt : j < 8 = omega (arith, lo, hi) in
          let put : get_or (put_chunk at a ys) (at + j) 0 ≡ get_or ys j 0 = get_or-put_chunk_at at a
          ys j 0 (omega (arith, long, lt)) (omega (arith, long, la)) in
          let pick : get_or ys j 0
          ≡ max (get_or (chunk at 8 a) j 0) (get_or (chunk at 8 b) j 0) = get_or-zip2 max (chunk
          at 8 a) (chunk at 8 b) j 0 0 0 (omega (arith, ca, lt)) (omega (arith, cb, lt)) in
          let va : get_or (chunk at 8 a) j 0 ≡ get_or a (at + j) 0 = get_or-chunk at 8 a j 0 lt in
          let vb : get_or (chunk at 8 b) j 0 ≡ get_or b (at + j) 0 = get_or-chunk at 8 b j 0 lt in
          let P : ℕ → Type 0 = λ m. get_or (put_chunk at a ys) m 0
          ≡ max (get_or a m 0) (get_or b m 0) in
          subst P jk (put ∙ (pick ∙ rw (va, vb) refl)));
      below = (λ k h. get_or-put_chunk_below at a ys k 0 h);
      above = (λ k h. get_or-put_chunk_above at a ys k 0 (omega (arith, h, long)));
    }

-- all lanes are written
pub greater_on_whole : (a new b : List ℕ) → length a ≡ length b → HasGreaterOn a new b 0 (length a)
    → new ≡ greater_of a b
greater_on_whole a new b same g =
    ext_get_or 0 new (greater_of a b) (g.len ∙ sym (length-zip2 max a b same))
    (λ i h.
    let la : i < length a = omega (arith, h, g.len) in
    g.inside i (omega arith) la ∙ sym (get_or-zip2 max a b i 0 0 0 la (omega (arith, la, same))))

-- ---- where the first list is over the second

pub take_short : {X : Type 0} (n : ℕ) (xs : List X) → length (take n xs) ≤ n
take_short zero xs = omega arith
take_short (suc n) [] = omega arith
take_short (suc n) (x ∷ xs) = let h = take_short n xs in omega (arith, h)

overs_long : (a b : List ℕ) (n : ℕ) → n ≤ length a → n ≤ length b → n ≤ length (overs a b)
overs_long a b zero la lb = omega arith
overs_long [] b (suc n) la lb = absurd (omega (arith, la))
overs_long (x ∷ xs) [] (suc n) la lb = absurd (omega (arith, lb))
overs_long (x ∷ xs) (y ∷ ys) (suc n) la lb =
    let h = overs_long xs ys n (omega (arith, la)) (omega (arith, lb)) in omega (arith, h)

at_place : (a b : List ℕ) (i : ℕ) → i < length a → i < length b
    → get_or (overs a b) i false ≡ ltb (get_or b i 0) (get_or a i 0)
at_place a b i la lb = get_or-zip2 (λ x y. ltb y x) a b i 0 0 false la lb

-- to count over the fronts is to count in the front of the comparisons
pub count_parts : (a b : List ℕ) (n : ℕ)
    → over_count (take n a) (take n b) ≡ count_by (λ over. over) (take n (overs a b))
count_parts a b n = ap (λ ms. count_by (λ over. over) ms) (sym (take-zip2 (λ x y. ltb y x) n a b))

-- a block more counts as many more lanes as its word has bits, and these are eight at most
pub count_more : (a b : List ℕ) (at : ℕ)
    → (over_count (take (at + 8) a) (take (at + 8) b) ≡ over_count (take at a)
    (take at b) + count_ones (over_bits_of a b at)) × (count_ones (over_bits_of a b at) ≤ 8)
unfolding count_ones
count_more a b at =
    let ms = overs a b in
    let ones : count_ones (over_bits_of a b at)
    ≡ count_by (λ over. over) (chunk at 8 ms) = ones-mask_l (λ over. over) (chunk at 8 ms) in
    let whole : count_by (λ over. over) (take (at + 8) ms)
    ≡ count_by (λ over. over) (take at ms) + count_by (λ over. over) (chunk at 8 ms) =
    ap (λ t. count_by (λ over. over) t) (take-add at 8 ms) ∙ sum_by-append (λ over. cond over 1 0)
    (take at ms) (chunk at 8 ms)
    in
    let small = count_by-le-length (λ over. over) (chunk at 8 ms) in
    let long = take_short 8 (drop at ms) in (
      count_parts a b (at + 8) ∙ (whole ∙ rw (ones, count_parts a b at) refl),
      omega
          (arith, ones, small, long),
    )

-- one lane more, which is over
pub count_yes : (a b : List ℕ) (i : ℕ) → i < length a → i < length b → get_or b i 0 < get_or a i 0
    → over_count (take (i + 1) a) (take (i + 1) b) ≡ over_count (take i a) (take i b) + 1
count_yes a b i la lb over =
    let yes : ltb (get_or b i 0) (get_or a i 0) ≡ true = grind (arith, nat_tests) in
    let long = overs_long a b (i + 1) (omega (arith, la)) (omega (arith, lb)) in
    count_parts a b (i + 1)
    ∙ (count_by_more_yes (λ over. over) (overs a b) i false (omega (arith, long))
    (at_place a b i la lb ∙ yes) ∙ rw (count_parts a b i) refl)

-- one lane more, which isn't over
pub count_no : (a b : List ℕ) (i : ℕ) → i < length a → i < length b → get_or a i 0 ≤ get_or b i 0
    → over_count (take (i + 1) a) (take (i + 1) b) ≡ over_count (take i a) (take i b)
count_no a b i la lb under =
    let no : ltb (get_or b i 0) (get_or a i 0) ≡ false = grind (arith, nat_tests) in
    let long = overs_long a b (i + 1) (omega (arith, la)) (omega (arith, lb)) in
    count_parts a b (i + 1)
    ∙ (count_by_more_no (λ over. over) (overs a b) i false (omega (arith, long))
    (at_place a b i la lb ∙ no) ∙ rw (count_parts a b i) refl)

-- a word with a bit has a first one
prefix_short : (ms : List Bool) → 0 < mask_l ms → prefix_len (λ over. not over) ms < length ms
prefix_short [] h = absurd (omega (arith, h))
prefix_short (true ∷ ms) h = omega arith
prefix_short (false ∷ ms) h = let p = prefix_short ms (omega (arith, h)) in omega (arith, p)

-- where no comparison of n more lanes holds, n more lanes are not over
before_upto : (a b : List ℕ) (at n : ℕ) → at + n ≤ length a → at + n ≤ length b
    → HasNoneOverBefore a b at
    → ((k : ℕ) → at ≤ k → k < at + n → get_or (overs a b) k false ≡ false)
    → HasNoneOverBefore a b (at + n)
before_upto a b at n la lb before fails i lt = elim (leb_tells at i) [
  | inl h ↦
      let no : ltb (get_or b i 0) (get_or a i 0) ≡ false = sym
      (at_place a b i (omega (arith, la, lt)) (omega (arith, lb, lt))) ∙ fails i h.1 lt in
      grind (arith, nat_tests)
  | inr h ↦ before i h.1
]

-- a word without a bit: no lane of the block is over
pub none_in_block : (a b : List ℕ) (at : ℕ) → at + 8 ≤ length a → at + 8 ≤ length b
    → over_bits_of a b at ≡ 0 → HasNoneOverBefore a b at → HasNoneOverBefore a b (at + 8)
none_in_block a b at la lb none before = before_upto a b at 8 la lb before (none_from_empty_mask
    (λ over. over) (overs a b) at 8 false (overs_long a b (at + 8) la lb) none)

-- the first bit of a word tells the first lane that is over
pub first_in_block : (a b : List ℕ) (at : ℕ) → at + 8 ≤ length a → at + 8 ≤ length b
    → over_bits_of a b at ≢ 0 → HasNoneOverBefore a b at → (trailing_zeros w64
    (over_bits_of a b at) < 8) × IsFirstOver a b (at + trailing_zeros w64 (over_bits_of a b at))
first_in_block a b at la lb some before =
    let ms = overs a b in
    let m = over_bits_of a b at in
    let r = trailing_zeros w64 m in
    let room : at + 8 ≤ length ms = overs_long a b (at + 8) la lb in
    let long : length (chunk at 8 ms) ≡ 8 = length-chunk at 8 ms room in
    let counted : r ≡ prefix_len (λ over. not over) (chunk at 8 ms) = trailing_mask_l
    (λ over. over) 64 (chunk at 8 ms) (omega (arith, long)) (omega (arith, some)) in
    let short : prefix_len (λ over. not over) (chunk at 8 ms) < length (chunk at 8 ms) =
    prefix_short (chunk at 8 ms) (rw (← map-id (chunk at 8 ms)) (omega (arith, some))) in
    let lt : r < 8 = omega (arith, counted, short, long) in
    let here : get_or ms (at + r) false
    ≡ true = run_in_chunk_stops (λ over. over) ms at 8 r false room counted lt in
    let before_here = run_in_chunk_fails (λ over. over) ms at 8 r false room counted in
    let over : ltb (get_or b (at + r) 0) (get_or a (at + r) 0) ≡ true = sym
    (at_place a b (at + r) (omega (arith, la, lt)) (omega (arith, lb, lt))) ∙ here in (
      lt,
      record {
        within = omega (arith, la, lt);
        over = grind (arith, nat_tests);
        none_before =
            before_upto a b at r (omega (arith, la, lt)) (omega (arith, lb, lt)) before before_here;
      },
    )
