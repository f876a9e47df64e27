-- Hexadecimal digits in the lanes of a vector.
use Rattle.std.proofs.Common.{◌≡◌, ◌<◌, ◌≤◌, ◌+◌, ◌-◌, ◌*◌, ◌%◌, ◌^◌, ◌∙◌, ◌++◌, ◌∷◌, [], ℕ, List}
use Rattle.std.proofs.Common.{ap, sym, map, zero, suc, ◌==◌, ◌&&◌, Bool, true, cond, Result, Ok}
use Rattle.std.proofs.Common.{Err, refl, get_or, length, take, drop, append_assoc, replicate}
use Rattle.std.proofs.Common.{bit_or, inl, inr, arith, eq-zero-or-pos, w8, Fits, ltb-false}
use Rattle.std.specs.Prelude.{nat_lt}
use lib.Lanes.{zip2, sel_l, mask_l, pick_l, top, Each1}
use Rattle.std.proofs.lemmas.Bool.{and_parts, eqb-true}
use Rattle.std.proofs.lemmas.List.{drop_all, drop_more, take_all, get_or-map, length-map}
use Rattle.std.proofs.lemmas.List.{take-append-drop}
use Rattle.std.proofs.lemmas.Simd.{mask_l-mod, none_from_empty_mask, pick_l_left, splat_is_map}
use Rattle.std.proofs.lemmas.Simd.{tops_compared, zip2_of_maps, zip2_splat, zip2_splat_left}
use Rattle.line_fields.proofs.TextLemmas.{rest_is}
use Rattle.line_fields.specs.declared.faults.Fault.{Fault}
use Rattle.line_fields.specs.Digits.{or_none, value_or_none, with_front}
use Rattle.line_fields.specs.Fields.{◌>>=◌, digit, hex}

-- the operations of bytes, which wrap
abbrev pub plus : ℕ → ℕ → ℕ
plus a b = (a + b) % 2 ^ 8

abbrev minus : ℕ → ℕ → ℕ
minus a b = (a + (2 ^ 8 - b)) % 2 ^ 8

abbrev times : ℕ → ℕ → ℕ
times a b = (a * b) % 2 ^ 8

-- a comparison in a lane
abbrev pub is_less : ℕ → ℕ → ℕ
is_less a b = cond (nat_lt a b) 255 0

-- what a byte is past the digit 0, and what a letter of either case is past the letter a
abbrev number : ℕ → ℕ
number byte = minus byte 48

abbrev letter : ℕ → ℕ
letter byte = minus (bit_or byte 32) 97

-- what is computed in the lane of a byte
abbrev other : ℕ → ℕ
other byte = cond (nat_lt (letter byte) 6) (plus (letter byte) 10) 255

abbrev lane : ℕ → ℕ
lane byte = cond (nat_lt (number byte) 10) (number byte) (other byte)

-- the lanes of all bytes below one have what their digits stand for
abbrev are_lanes : ℕ → Bool
are_lanes zero = true
are_lanes (suc byte) = (lane byte == value_or_none byte) && are_lanes byte

lane_below : (n byte : ℕ) → are_lanes n ≡ true → byte < n → (lane byte == value_or_none byte) ≡ true
lane_below zero byte h lt = absurd (omega arith)
lane_below (suc n) byte h lt =
    let p = and_parts (lane n == value_or_none n) (are_lanes n) h in
    elim (eq-zero-or-pos (n - byte)) [
      | inl none ↦ let same : byte ≡ n = omega arith in rw same p.0
      | inr some ↦ lane_below n byte p.1 (omega arith)
    ]

lane_is : (byte : ℕ) → byte < 256 → lane byte ≡ value_or_none byte
lane_is byte lt = eqb-true (lane byte) (value_or_none byte) (lane_below 256 byte refl lt)

map_lane : (bytes : List ℕ) → Each1 (Fits w8) bytes → map lane bytes ≡ map value_or_none bytes
map_lane [] fit = refl
map_lane (byte ∷ rest) fit = λ i. lane_is byte fit.0.fits i ∷ map_lane rest fit.1 i

-- a choice between lanes that were computed lane by lane
sel_of_map : (p : ℕ → Bool) (f g : ℕ → ℕ) (vs : List ℕ)
    → sel_l (map p vs) (map f vs) (map g vs) ≡ map (λ v. cond (p v) (f v) (g v)) vs
sel_of_map p f g [] = refl
sel_of_map p f g (v ∷ vs) =
    ap (λ (rest : List ℕ). cond (p v) (f v) (g v) ∷ rest) (sel_of_map p f g vs)

pub sel_of_maps : (p : ℕ → Bool) (f g : ℕ → ℕ) (vs : List ℕ) (ms : List Bool) (xs ys : List ℕ)
    → ms ≡ map p vs → xs ≡ map f vs → ys ≡ map g vs
    → sel_l ms xs ys ≡ map (λ v. cond (p v) (f v) (g v)) vs
sel_of_maps p f g vs ms xs ys a b c = (λ i. sel_l (a i) (b i) (c i)) ∙ sel_of_map p f g vs

-- lanes below a bound, where the lanes were computed lane by lane
less_of_map : (n : ℕ) (f : ℕ → ℕ) (bound : ℕ) (vs xs : List ℕ) → length vs ≡ n → xs ≡ map f vs
    → map (top 7) (zip2 is_less xs (replicate n bound)) ≡ map (λ v. nat_lt (f v) bound) vs
less_of_map n f bound vs xs long e = tops_compared w8 nat_lt xs
    (replicate n bound) ∙ zip2_of_maps nat_lt f (λ _. bound) vs e (splat_is_map vs n bound long)

-- what the lanes of n bytes have
pub values_are : (n : ℕ) (bytes : List ℕ) → length bytes ≡ n → Each1 (Fits w8) bytes
    → sel_l (map (top 7) (zip2 is_less (zip2 minus bytes (replicate n 48)) (replicate n 10)))
    (zip2 minus bytes (replicate n 48))
    (sel_l (map (top 7)
    (zip2 is_less (zip2 minus (zip2 bit_or bytes (replicate n 32)) (replicate n 97))
    (replicate n 6))) (zip2 plus (zip2 minus (zip2 bit_or bytes (replicate n 32))
    (replicate n 97)) (replicate n 10)) (replicate n 255))
    ≡ map value_or_none bytes
values_are n bytes long fit =
    let numbers : zip2 minus bytes (replicate n 48)
    ≡ map number bytes = zip2_splat minus bytes n 48 long in
    let lowered : zip2 bit_or bytes (replicate n 32)
    ≡ map (λ byte. bit_or byte 32) bytes = zip2_splat bit_or bytes n 32 long in
    let letters : zip2 minus (zip2 bit_or bytes (replicate n 32)) (replicate n 97)
    ≡ map letter bytes = zip2_of_maps minus (λ byte. bit_or byte 32) (λ _. 97) bytes lowered
    (splat_is_map bytes n 97 long) in
    let tens : zip2 plus (zip2 minus (zip2 bit_or bytes (replicate n 32)) (replicate n 97))
    (replicate n 10) ≡ map (λ byte. plus (letter byte) 10) bytes =
    zip2_of_maps plus letter (λ _. 10) bytes letters (splat_is_map bytes n 10 long) in
    let others = sel_of_maps (λ byte. nat_lt (letter byte) 6) (λ byte. plus (letter byte) 10)
    (λ _. 255) bytes _ _ _ (less_of_map n letter 6 bytes _ long letters) tens
    (splat_is_map bytes n 255 long) in
    sel_of_maps (λ byte. nat_lt (number byte) 10) number other bytes _ _ _
    (less_of_map n number 10 bytes _ long numbers) numbers others ∙ map_lane bytes fit

-- bytes, each of two neighbouring lanes from a place on
abbrev pairs : ℕ → ℕ → List ℕ → List ℕ
pairs zero k lanes = []
pairs (suc n) k lanes =
    plus (times (get_or lanes k 0) 16) (get_or lanes (k + 1) 0) ∷ pairs n (k + 2) lanes

-- two digits and what the rest spells
hex_pair : (first second high low : ℕ) (rest bytes : List ℕ) → digit first ≡ Ok high → digit second
    ≡ Ok low → hex rest ≡ Ok bytes → hex (first ∷ second ∷ rest) ≡ Ok ((16 * high + low) ∷ bytes)
unfolding hex
hex_pair first second high low rest bytes h l r = rw (h, l, r) refl

hex_nothing : hex [] ≡ Ok []
unfolding hex
hex_nothing = refl

pair_is : (high low : ℕ) → high < 16 → low < 16 → plus (times high 16) low ≡ 16 * high + low
pair_is high low h l = omega (arith, h, l)

two_more : (xs : List ℕ) (k : ℕ) → k + 2 ≤ length xs
    → drop k xs ≡ get_or xs k 0 ∷ get_or xs (k + 1) 0 ∷ drop (k + 2) xs
two_more xs k le =
    let two : k + 1 + 1 ≡ k + 2 = omega arith in
    drop_more xs k 0 (omega arith) ∙ ap (λ (ys : List ℕ). get_or xs k 0 ∷ ys)
    (drop_more xs (k + 1) 0 (omega arith) ∙ ap (λ (n : ℕ). get_or xs (k + 1) 0 ∷ drop n xs) two)

-- digits spell the bytes of their lanes
spelled : (n k : ℕ) (xs lanes : List ℕ) → length xs ≡ k + 2 * n → ((i : ℕ) → i < length xs → digit
    (get_or xs i 0) ≡ Ok (get_or lanes i 0)) → ((i : ℕ) → i < length xs → get_or lanes i 0 < 16)
    → hex (drop k xs) ≡ Ok (pairs n k lanes)
spelled zero k xs lanes long are small = ap hex (drop_all k xs (omega (arith, long))) ∙ hex_nothing
spelled (suc n) k xs lanes long are small =
    let here : k < length xs = omega (arith, long) in
    let next : k + 1 < length xs = omega (arith, long) in
    ap hex (two_more xs k (omega (arith, next)))
    ∙ hex_pair _ _ _ _ _ _ (are k here) (are (k + 1) next)
    (spelled n (k + 2) xs lanes (omega (arith, long)) are small)
    ∙ ap (λ (byte : ℕ). Ok (byte ∷ pairs n (k + 2) lanes)) (sym
    (pair_is (get_or lanes k 0) (get_or lanes (k + 1) 0) (small k here) (small (k + 1) next)))

-- a value below 16 is that of a digit
found : (read : Result ℕ Fault) → or_none read < 16 → read ≡ Ok (or_none read)
found (Ok value) lt = refl
found (Err fault) lt = absurd (omega (arith, lt))

-- the bytes of lanes are digits, and the lanes what they stand for
record AreDigits (xs lanes : List ℕ) : Type 0 where
  are : (i : ℕ) → i < length xs → digit (get_or xs i 0) ≡ Ok (get_or lanes i 0)
  small : (i : ℕ) → i < length xs → get_or lanes i 0 < 16
  many : length lanes ≡ length xs

-- where none of n lanes is over 15, the bytes are digits
are_digits : (n : ℕ) (xs lanes : List ℕ) → n ≤ 64 → length xs ≡ n → lanes ≡ map value_or_none xs
    → mask_l (map (top 7) (zip2 is_less (replicate n 15) lanes)) % 2 ^ 64 ≡ 0 → AreDigits xs lanes
are_digits n xs lanes few long e none =
    let many : length lanes ≡ n = ap length e ∙ (length-map xs value_or_none ∙ long) in
    let mask : mask_l (map (top 7) (zip2 is_less (replicate n 15) lanes)) % 2 ^ 64
    ≡ mask_l (map (λ x. nat_lt 15 x) lanes) =
    ap (λ (ms : List Bool). mask_l ms % 2 ^ 64)
    (tops_compared w8 nat_lt (replicate n 15) lanes ∙ zip2_splat_left nat_lt 15 n lanes many)
    ∙ mask_l-mod (map (λ x. nat_lt 15 x) lanes) 64
    (omega (arith, few, many, length-map lanes (λ x. nat_lt 15 x))) in
    let whole : take n lanes ≡ lanes = take_all n lanes (omega (arith, many)) in
    let empty : mask_l (map (λ x. nat_lt 15 x) (take n lanes))
    ≡ 0 = ap (λ (v : List ℕ). mask_l (map (λ x. nat_lt 15 x) v)) whole ∙ (sym mask ∙ none) in
    let small : (i : ℕ) → i < length xs → get_or lanes i 0 < 16 = λ i lt.
    let low = ltb-false _ _ (none_from_empty_mask (λ x. nat_lt 15 x) lanes 0 n 0
    (omega (arith, many)) empty i (omega arith) (omega (arith, long, lt))) in
    omega (arith, low) in
    let value : (i : ℕ) → i < length xs → get_or lanes i 0 ≡ value_or_none (get_or xs i 0) = λ i lt.
    ap (λ (v : List ℕ). get_or v i 0) e ∙ get_or-map value_or_none xs i 0 0 lt in
    record {
      are = λ i lt.
          let at = value i lt in
          let below : value_or_none (get_or xs i 0) < 16 = omega (arith, small i lt, at) in
          found (digit (get_or xs i 0)) below ∙ ap Ok (sym at);
      small = small;
      many = many ∙ sym long;
    }

-- where none of sixteen lanes is over 15, the bytes spell those of their lanes
pub eight_are : (xs lanes : List ℕ) → length xs ≡ 16 → lanes ≡ map value_or_none xs
    → mask_l (map (top 7) (zip2 is_less (replicate 16 15) lanes)) % 2 ^ 64 ≡ 0
    → hex xs ≡ Ok
    (zip2 plus (zip2 times (pick_l 0 (lanes ++ lanes) (0 ∷ 2 ∷ 4 ∷ 6 ∷ 8 ∷ 10 ∷ 12 ∷ 14 ∷ []))
    (replicate 8 16)) (pick_l 0 (lanes ++ lanes) (1 ∷ 3 ∷ 5 ∷ 7 ∷ 9 ∷ 11 ∷ 13 ∷ 15 ∷ [])))
eight_are xs lanes long e none =
    let so = are_digits 16 xs lanes (omega arith) long e none in
    let many : length lanes ≡ 16 = so.many ∙ long in
    let highs = pick_l_left 0 lanes lanes 16 (0 ∷ 2 ∷ 4 ∷ 6 ∷ 8 ∷ 10 ∷ 12 ∷ 14 ∷ []) many tt in
    let lows = pick_l_left 0 lanes lanes 16 (1 ∷ 3 ∷ 5 ∷ 7 ∷ 9 ∷ 11 ∷ 13 ∷ 15 ∷ []) many tt in
    let bytes : pairs 8 0 lanes
    ≡ zip2 plus (zip2 times (pick_l 0 lanes (0 ∷ 2 ∷ 4 ∷ 6 ∷ 8 ∷ 10 ∷ 12 ∷ 14 ∷ []))
    (replicate 8 16)) (pick_l 0 lanes (1 ∷ 3 ∷ 5 ∷ 7 ∷ 9 ∷ 11 ∷ 13 ∷ 15 ∷ [])) =
    refl in
    spelled 8 0 xs lanes (omega (arith, long)) so.are so.small ∙ ap Ok bytes ∙
    (λ i. Ok (zip2 plus (zip2 times (sym highs i) (replicate 8 16)) (sym lows i)))

-- the same of eight lanes
pub four_are : (xs lanes : List ℕ) → length xs ≡ 8 → lanes ≡ map value_or_none xs
    → mask_l (map (top 7) (zip2 is_less (replicate 8 15) lanes)) % 2 ^ 64 ≡ 0
    → hex xs ≡ Ok (zip2 plus (zip2 times (pick_l 0 (lanes ++ lanes) (0 ∷ 2 ∷ 4 ∷ 6 ∷ []))
    (replicate 4 16)) (pick_l 0 (lanes ++ lanes) (1 ∷ 3 ∷ 5 ∷ 7 ∷ [])))
four_are xs lanes long e none =
    let so = are_digits 8 xs lanes (omega arith) long e none in
    let many : length lanes ≡ 8 = so.many ∙ long in
    let highs = pick_l_left 0 lanes lanes 8 (0 ∷ 2 ∷ 4 ∷ 6 ∷ []) many tt in
    let lows = pick_l_left 0 lanes lanes 8 (1 ∷ 3 ∷ 5 ∷ 7 ∷ []) many tt in
    let bytes : pairs 4 0 lanes ≡ zip2 plus (zip2 times (pick_l 0 lanes (0 ∷ 2 ∷ 4 ∷ 6 ∷ []))
    (replicate 4 16)) (pick_l 0 lanes (1 ∷ 3 ∷ 5 ∷ 7 ∷ [])) = refl in
    spelled 4 0 xs lanes (omega (arith, long)) so.are so.small ∙ ap Ok bytes ∙
    (λ i. Ok (zip2 plus (zip2 times (sym highs i) (replicate 4 16)) (sym lows i)))

-- nothing read before
front_none : (read : Result (List ℕ) Fault) → read ≡ with_front [] read
front_none (Ok xs) = refl
front_none (Err fault) = refl

front_more : (x : ℕ) (front : List ℕ) (read : Result (List ℕ) Fault)
    → (with_front front read >>= λ xs. Ok (x ∷ xs)) ≡ with_front (x ∷ front) read
front_more x front (Ok xs) = refl
front_more x front (Err fault) = refl

-- one thing read behind another
front_both : (front more : List ℕ) (read : Result (List ℕ) Fault)
    → with_front front (with_front more read) ≡ with_front (front ++ more) read
front_both front more (Ok xs) = ap Ok (sym (append_assoc front more xs))
front_both front more (Err fault) = refl

-- the value of a result, or another
abbrev value_of : List ℕ → Result (List ℕ) Fault → List ℕ
value_of none (Ok xs) = xs
value_of none (Err fault) = none

same_Ok : (xs ys : List ℕ) → ◌≡◌ {A = Result (List ℕ) Fault} (Ok xs) (Ok ys) → xs ≡ ys
same_Ok xs ys h = ap (value_of []) h

-- a pair of digits before a text
pair_then : (a b : Result ℕ Fault) (some all rest : Result (List ℕ) Fault) (bytes : List ℕ)
    → ((xs : List ℕ) → some ≡ Ok xs → all ≡ with_front xs rest)
    → (a >>= λ high. b >>= λ low. some >>= λ xs. Ok ((16 * high + low) ∷ xs)) ≡ Ok bytes → (a >>= λ
    high. b >>= λ low. all >>= λ xs. Ok ((16 * high + low) ∷ xs)) ≡ with_front bytes rest
pair_then (Err f) b some all rest bytes then h = cc h
pair_then (Ok high) (Err f) some all rest bytes then h = cc h
pair_then (Ok high) (Ok low) (Err f) all rest bytes then h = cc h
pair_then (Ok high) (Ok low) (Ok xs) all rest bytes then h =
    ap (λ (r : Result (List ℕ) Fault). r >>= λ ys. Ok ((16 * high + low) ∷ ys))
    (then xs refl) ∙ front_more (16 * high + low) xs rest ∙ ap
    (λ (ys : List ℕ). with_front ys rest) (same_Ok ((16 * high + low) ∷ xs) bytes h)

-- a text of digits alone before another
hex_then : (xs ys bytes : List ℕ) → hex xs ≡ Ok bytes → hex (xs ++ ys) ≡ with_front bytes (hex ys)
unfolding hex
hex_then [] ys bytes h =
    front_none (hex ys) ∙ ap (λ (front : List ℕ). with_front front (hex ys)) (same_Ok [] bytes h)
hex_then (odd ∷ []) ys bytes h = cc h
hex_then (first ∷ second ∷ rest) ys bytes h =
    pair_then (digit first) (digit second) (hex rest) (hex (rest ++ ys)) (hex ys) bytes
    (λ xs e. hex_then rest ys xs e) h

-- the same of the first bytes of a text
pub eight_more : (front text bytes : List ℕ) (n : ℕ) → hex (take n text) ≡ Ok bytes → with_front
    front (hex text) ≡ with_front (front ++ bytes) (hex (take (length text - n) (drop n text)))
eight_more front text bytes n h =
    ap (λ (xs : List ℕ). with_front front (hex xs)) (sym (take-append-drop n text)) ∙ ap
    (with_front front) (hex_then (take n text) (drop n text) bytes h) ∙ front_both front bytes
    (hex (drop n text))
    ∙ ap (λ (xs : List ℕ). with_front (front ++ bytes) (hex xs)) (sym (rest_is text n))
