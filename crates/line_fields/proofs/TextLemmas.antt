-- The bytes of an input text, place by place, and how many records a text has.
use Rattle.std.proofs.Common.{◌≡◌, [], ◌∷◌, ℕ, zero, suc, List, Bool, true, false, not, ◌==◌, ◌&&◌}
use Rattle.std.proofs.Common.{◌||◌, ◌<◌, ◌≤◌, ◌+◌, ◌-◌, length, take, drop, get_or, refl, sym, ap}
use Rattle.std.proofs.Common.{◌∙◌, inl, inr, arith}
use Rattle.std.specs.Prelude.{filter, nat_le}
use Rattle.std.proofs.lemmas.List.{drop_all, drop_more, take_all, length-drop, length-map}
use Rattle.std.proofs.lemmas.List.Filters.{length-filter_both}
use Rattle.std.proofs.lemmas.Bool.{and_parts, cases_Bool, eqb-true}
use Rattle.std.specs.List.{list_all}
use Rattle.line_fields.specs.Bytes.{begins_with_feed, is_input_byte, is_common, is_input_text}
use Rattle.line_fields.specs.Records.{without, cut, parts, has_byte, records_of_text}

-- a slice from a place on is all that follows that place
pub rest_is : (xs : List ℕ) (n : ℕ) → take (length xs - n) (drop n xs) ≡ drop n xs
rest_is xs n =
    let long = length-drop n xs in take_all (length xs - n) (drop n xs) (omega (arith, long))

-- a text from a place on is plain if its first byte may stand there and the rest is plain
pub plain_at : (xs : List ℕ) (i : ℕ) → i < length xs → is_input_text (drop i xs)
    ≡ (is_input_byte (get_or xs i 0) (drop (i + 1) xs) && is_input_text (drop (i + 1) xs))
unfolding is_input_text
plain_at xs i lt = ap is_input_text (drop_more xs i 0 lt)

and_assoc : (a b c : Bool) → (a && (b && c)) ≡ ((a && b) && c)
and_assoc true b c = refl
and_assoc false b c = refl

and_true : (b : Bool) → (b && true) ≡ b
and_true true = refl
and_true false = refl

or_false : (a b : Bool) → (a || (b && false)) ≡ a
or_false true b = refl
or_false false true = refl
or_false false false = refl

-- the bytes up to a place were judged, and the next byte is, by the one behind it
pub plain_more : (xs : List ℕ) (i : ℕ) (before now : Bool) → i + 1 < length xs
    → is_input_text xs ≡ (before && is_input_text (drop i xs))
    → ((rest : List ℕ) → now ≡ is_input_byte (get_or xs i 0) (get_or xs (i + 1) 0 ∷ rest))
    → is_input_text xs ≡ ((before && now) && is_input_text (drop (i + 1) xs))
plain_more xs i before now lt so is =
    let others : Bool = is_input_text (drop (i + 1) xs) in
    let next : drop (i + 1) xs
    ≡ get_or xs (i + 1) 0 ∷ drop (i + 1 + 1) xs = drop_more xs (i + 1) 0 lt in
    let judged : is_input_byte (get_or xs i 0) (drop (i + 1) xs)
    ≡ now = ap (is_input_byte (get_or xs i 0)) next ∙ sym (is (drop (i + 1 + 1) xs)) in
    so ∙ ap (λ (b : Bool). before && b) (plain_at xs i (omega (arith, lt)) ∙ ap
    (λ (b : Bool). b && others) judged) ∙ and_assoc before now others

-- nothing stands behind the last byte
pub plain_last : (xs : List ℕ) (i : ℕ) (before now : Bool) → length xs ≡ i + 1
    → now ≡ is_common (get_or xs i 0) → (before && is_input_text (drop i xs)) ≡ (before && now)
unfolding is_input_text
plain_last xs i before now long is =
    let none : drop (i + 1) xs ≡ [] = drop_all (i + 1) xs (omega (arith, long)) in
    let last : drop i xs ≡ get_or xs i 0 ∷ [] = drop_more xs i 0 (omega (arith, long)) ∙ ap
    (λ (ys : List ℕ). get_or xs i 0 ∷ ys) none in
    let judged : is_input_text (get_or xs i 0 ∷ [])
    ≡ is_common (get_or xs i 0) = and_true (is_input_byte (get_or xs i 0) []) ∙ or_false
    (is_common (get_or xs i 0)) (get_or xs i 0 == 13) in
    ap (λ (b : Bool). before && b) (ap is_input_text last ∙ judged ∙ sym is)

-- a third way in which a test may hold takes nothing from the first two
or_more : (a b c : Bool) → (a || b) ≡ true → (a || b || c) ≡ true
or_more true b c h = refl
or_more false true c h = refl
or_more false false c h = cc h

-- a byte that may stand anywhere may stand before these
common_is_allowed : (byte : ℕ) (rest : List ℕ) → is_common byte ≡ true
    → is_input_byte byte rest ≡ true
common_is_allowed byte rest h =
    or_more (nat_le 32 byte && nat_le byte 126 && not (byte == 34)) (byte == 10)
    ((byte == 13) && begins_with_feed rest) h

-- such bytes in front of a text change nothing
front_is_common : (n : ℕ) (xs : List ℕ) → list_all is_common (take n xs) ≡ true
    → is_input_text xs ≡ is_input_text (drop n xs)
unfolding is_input_text
front_is_common zero xs h = refl
front_is_common (suc n) [] h = refl
front_is_common (suc n) (byte ∷ rest) h =
    let p = and_parts (is_common byte) (list_all is_common (take n rest)) h in
    rw (common_is_allowed byte rest p.0) (front_is_common n rest p.1)

pub common_front : (xs : List ℕ) (n : ℕ) → list_all is_common (take n xs) ≡ true
    → is_input_text (take (length xs - n) (drop n xs)) ≡ is_input_text xs
common_front xs n h = ap is_input_text (rest_is xs n) ∙ sym (front_is_common n xs h)

-- fewer bytes stay without a mark
length-without : (mark : ℕ) (xs : List ℕ) → length (without mark xs) ≤ length xs
unfolding without
length-without mark [] = omega arith
length-without mark (c ∷ rest) =
    let ih = length-without mark rest in
    elim (cases_Bool (c == mark))
    [ inl e ↦ rw e (omega (arith, ih)) | inr e ↦ rw e (omega (arith, ih)) ]

-- there are no more marks than bytes
length-cut : (mark : ℕ) (xs : List ℕ) → length (cut mark xs).1 ≤ length xs
unfolding cut
length-cut mark [] = omega arith
length-cut mark (c ∷ rest) =
    let ih = length-cut mark rest in
    elim (cases_Bool (c == mark))
    [ inl e ↦ rw e (omega (arith, ih)) | inr e ↦ rw e (omega (arith, ih)) ]

-- a text has at most one record more than it has bytes
pub length-records_of_text : (xs : List ℕ) → length (records_of_text xs) ≤ length xs + 1
length-records_of_text xs =
    let lines = parts 10 (without 13 xs) in
    let records = length-map (filter has_byte lines) (parts 44) in
    let kept = length-filter_both has_byte (λ l. not (has_byte l)) (λ l. refl) lines in
    let feeds = length-cut 10 (without 13 xs) in
    let bytes = length-without 13 xs in
    omega (arith, records, kept, feeds, bytes)

-- the empty text is plain, and has no records
pub empty_is_input : is_input_text [] ≡ true
unfolding is_input_text
empty_is_input = refl

pub empty_is_plain : (xs : List ℕ) → (length xs == 0) ≡ true → is_input_text xs ≡ true
empty_is_plain [] h = empty_is_input
empty_is_plain (c ∷ rest) h = let none : length (c ∷ rest)
    ≡ 0 = eqb-true (length (c ∷ rest)) 0 h in absurd (omega (arith, none))

pub records_of_nothing : records_of_text [] ≡ []
unfolding cut without
records_of_nothing = refl
