-- Reading a number digit by digit.
use Rattle.std.proofs.Common.{◌≡◌, ◌≤◌, ◌<◌, ℕ, ◌+◌, ◌-◌, ◌*◌, ◌==◌, ◌&&◌, not, Bool, true, false}
use Rattle.std.proofs.Common.{List, [], ◌∷◌, Result, Ok, Err, refl, sym, ap, ◌∙◌, arith, take, drop}
use Rattle.std.proofs.Common.{get_or, length}
use Rattle.std.specs.Prelude.{nat_le, if◌then◌else◌}
use Rattle.std.specs.Char.{is_ascii_digit, digit_value}
use Rattle.std.specs.Str.{all_ascii_digits}
use Rattle.std.specs.Str.Parse.{digits_value, digits_value_after}
use Rattle.std.proofs.lemmas.Str.{digit_value_digit}
use Rattle.std.proofs.lemmas.Bool.{and_parts}
use borrow.Author.Tests.{leb-true, le-leb, lt-leb}
use Rattle.std.proofs.lemmas.List.{drop_more}
use Rattle.line_fields.proofs.TextLemmas.{rest_is}
use Rattle.line_fields.specs.declared.faults.Fault.{Fault}
use Rattle.line_fields.specs.declared.faults.Fault.TheVariants.{BadNumber}
use Rattle.line_fields.specs.Fields.{num}

-- the number of a text whose digits follow those of a number
abbrev pub num_after : ℕ → ℕ → ℕ → List ℕ → Result ℕ Fault
num_after least most before text =
    if all_ascii_digits text && nat_le least (digits_value_after 10 before text) && nat_le
    (digits_value_after 10 before text) most then Ok (digits_value_after 10 before text)
    else Err BadNumber

-- a test that fails at its end
and_false : (b : Bool) → (b && false) ≡ false
and_false true = refl
and_false false = refl

-- further digits make no number smaller
value_grows : (n : ℕ) (cs : List ℕ) → n ≤ digits_value_after 10 n cs
value_grows n [] = omega arith
value_grows n (c ∷ cs) = let ih = value_grows (n * 10 + digit_value c) cs in omega (arith, ih)

-- what a digit stands for
digit_is : (c : ℕ) → is_ascii_digit c ≡ true → digit_value c ≡ c - 48
digit_is c h =
    let p = and_parts (nat_le 48 c) (nat_le c 57) h in
    let low = leb-true 48 c p.0 in
    let high = leb-true c 57 p.1 in
    omega (arith, digit_value_digit c (low, high))

-- one more digit
num_more : (least most before c : ℕ) (cs : List ℕ) → is_ascii_digit c ≡ true
    → num_after least most before (c ∷ cs) ≡ num_after least most (before * 10 + (c - 48)) cs
num_more least most before c cs h = rw (h, digit_is c h) refl

-- no digit
num_no_digit : (least most before c : ℕ) (cs : List ℕ) → is_ascii_digit c ≡ false
    → num_after least most before (c ∷ cs) ≡ Err BadNumber
num_no_digit least most before c cs h = rw h refl

-- too great already
pub num_large : (least most before : ℕ) (cs : List ℕ) → most < before
    → num_after least most before cs ≡ Err BadNumber
num_large least most before cs lt =
    let grows = value_grows before cs in
    let over : nat_le (digits_value_after 10 before cs) most
    ≡ false = lt-leb (digits_value_after 10 before cs) most (omega arith) in
    rw (over, and_false (all_ascii_digits cs && nat_le least (digits_value_after 10 before cs)))
    refl

at_end : (b : Bool) (x y : Result ℕ Fault) → (if b && true then x else y) ≡ (if b then x else y)
at_end true x y = refl
at_end false x y = refl

-- at the end
num_end : (least most before : ℕ) → before ≤ most
    → num_after least most before [] ≡ (if nat_le least before then Ok before else Err BadNumber)
num_end least most before le =
    rw (le-leb before most le) (at_end (nat_le least before) (Ok before) (Err BadNumber))

-- a text that is not empty is read from 0 on
pub num_is : (least most : ℕ) (text : List ℕ) → (length text == 0) ≡ false
    → num least most text ≡ num_after least most 0 text
unfolding num
num_is least most text h = rw h refl

pub num_empty : (least most : ℕ) (text : List ℕ) → (length text == 0) ≡ true
    → num least most text ≡ Err BadNumber
unfolding num
num_empty least most text h = rw h refl

-- a list that is not empty, as a slice pattern takes it apart
some_more : (xs : List ℕ) → 1 ≤ length xs → xs ≡ get_or xs 0 0 ∷ take (length xs - 1) (drop 1 xs)
some_more xs h = drop_more xs 0 0 (omega arith) ∙ ap (λ ys. get_or xs 0 0 ∷ ys) (sym (rest_is xs 1))

-- the same by the first byte of a slice
pub more_at : (least most before : ℕ) (xs : List ℕ) → 1 ≤ length xs
    → is_ascii_digit (get_or xs 0 0) ≡ true → num_after least most before xs
    ≡ num_after least most (before * 10 + (get_or xs 0 0 - 48)) (take (length xs - 1) (drop 1 xs))
more_at least most before xs some h = ap (num_after least most before) (some_more xs some) ∙
    num_more least most before (get_or xs 0 0) (take (length xs - 1) (drop 1 xs)) h

pub no_digit_at : (least most before : ℕ) (xs : List ℕ) → 1 ≤ length xs
    → is_ascii_digit (get_or xs 0 0) ≡ false → num_after least most before xs ≡ Err BadNumber
no_digit_at least most before xs some h = ap (num_after least most before) (some_more xs some) ∙
    num_no_digit least most before (get_or xs 0 0) (take (length xs - 1) (drop 1 xs)) h

pub end_at : (least most before : ℕ) (xs : List ℕ) → length xs < 1 → before ≤ most
    → num_after least most before xs ≡ (if nat_le least before then Ok before else Err BadNumber)
end_at least most before [] h le = num_end least most before le
end_at least most before (c ∷ cs) h le = absurd (omega arith)

-- a refusal stays one, whether the text is empty or not
bad_parts : (b a l m : Bool) (v : ℕ) → (if a && l && m then Ok v else Err BadNumber) ≡ Err BadNumber
    → (if not b && a && l && m then Ok v else Err BadNumber) ≡ Err BadNumber
bad_parts true a l m v h = refl
bad_parts false a l m v h = h

pub num_bad : (least most : ℕ) (text : List ℕ) → num_after least most 0 text ≡ Err BadNumber
    → num least most text ≡ Err BadNumber
unfolding num
num_bad least most text h =
    bad_parts (length text == 0) (all_ascii_digits text) (nat_le least (digits_value 10 text))
    (nat_le (digits_value 10 text) most) (digits_value 10 text) h

-- one digit
below_ten : (d : ℕ) → 0 * 10 + (d - 48) ≡ d - 48
below_ten d = omega arith

pub num_digit : (least most : ℕ) (xs : List ℕ) → length xs ≡ 1
    → is_ascii_digit (get_or xs 0 0) ≡ true → get_or xs 0 0 - 48 ≤ most → num least most xs
    ≡ (if nat_le least (get_or xs 0 0 - 48) then Ok (get_or xs 0 0 - 48) else Err BadNumber)
num_digit least most [] one h le = cc one
num_digit least most (d ∷ []) one h le =
    num_is least most (d ∷ []) refl ∙ num_more least most 0 d [] h ∙ ap
    (λ (n : ℕ). num_after least most n []) (below_ten d) ∙ num_end least most (d - 48) le
num_digit least most (d ∷ e ∷ rest) one h le = absurd (omega (arith, one))

num_small : (least most before : ℕ) → before < least
    → num_after least most before [] ≡ Err BadNumber
num_small least most before lt = rw (lt-leb least before lt) refl

pub num_digit_small : (least most : ℕ) (xs : List ℕ) → length xs ≡ 1 → is_ascii_digit
    (get_or xs 0 0) ≡ true → get_or xs 0 0 - 48 < least → num least most xs ≡ Err BadNumber
num_digit_small least most [] one h lt = cc one
num_digit_small least most (d ∷ []) one h lt =
    num_is least most (d ∷ []) refl ∙ num_more least most 0 d [] h ∙ ap
    (λ (n : ℕ). num_after least most n []) (below_ten d) ∙ num_small least most (d - 48) lt
num_digit_small least most (d ∷ e ∷ rest) one h lt = absurd (omega (arith, one))

pub num_digit_large : (least most : ℕ) (xs : List ℕ) → length xs ≡ 1 → is_ascii_digit
    (get_or xs 0 0) ≡ true → most < get_or xs 0 0 - 48 → num least most xs ≡ Err BadNumber
num_digit_large least most [] one h lt = cc one
num_digit_large least most (d ∷ []) one h lt =
    num_is least most (d ∷ []) refl ∙ num_more least most 0 d [] h ∙ ap
    (λ (n : ℕ). num_after least most n []) (below_ten d) ∙ num_large least most (d - 48) [] lt
num_digit_large least most (d ∷ e ∷ rest) one h lt = absurd (omega (arith, one))

pub num_one_bad : (least most : ℕ) (xs : List ℕ) → length xs ≡ 1
    → is_ascii_digit (get_or xs 0 0) ≡ false → num least most xs ≡ Err BadNumber
num_one_bad least most [] one h = cc one
num_one_bad least most (d ∷ []) one h =
    num_is least most (d ∷ []) refl ∙ num_no_digit least most 0 d [] h
num_one_bad least most (d ∷ e ∷ rest) one h = absurd (omega (arith, one))
