-- What is written is read again.
use Rattle.std.proofs.Common.{◌≡◌, ◌≤◌, ◌<◌, ℕ, zero, suc, ◌+◌, ◌*◌, ◌/◌, ◌%◌, ◌^◌, ◌==◌, true}
use Rattle.std.proofs.Common.{false, List, [], ◌∷◌, length, Ok, refl, ap, arith, le-leb, ne_eqb}
use Rattle.std.specs.Prelude.{decimal}
use Rattle.std.specs.List.{AllByRecursion}
use Rattle.std.specs.Str.{all_ascii_digits}
use Rattle.std.specs.Str.Parse.{digits_value}
use Rattle.std.proofs.lemmas.Str.Parse.{IsNumeralModel, numerals_by_value, tells_all_ascii_digits}
use Rattle.std.proofs.lemmas.Fmt.{digits_decimal, digits_value-decimal, decimal_nonempty}
use Rattle.line_fields.specs.Fields.{num, digit, hex}
use Rattle.line_fields.specs.Texts.{hex_digit, hex_text}

-- a decimal has digits alone
own : IsNumeralModel (λ ds. all_ascii_digits ds ≡ true) (digits_value 10)
own = numerals_by_value (λ ds. all_ascii_digits ds ≡ true) tells_all_ascii_digits

pub all_ascii_digits-decimal : (n : ℕ) → n < 2 ^ 64 → all_ascii_digits (decimal n) ≡ true
all_ascii_digits-decimal n fits = digits_decimal own n fits

pub num_decimal : (least most n : ℕ) → least ≤ n → n ≤ most → n < 2 ^ 64
    → num least most (decimal n) ≡ Ok n
unfolding num
num_decimal least most n low high fits =
    let long = decimal_nonempty n fits in
    let some : (length (decimal n) == 0) ≡ false = ne_eqb _ _ (λ e. omega arith) in
    let value : digits_value 10 (decimal n) ≡ n = digits_value-decimal own n fits in
    rw (some, all_ascii_digits-decimal n fits, value, le-leb least n low, le-leb n most high) refl

-- a fact of each value of a hexadecimal digit
pub each_digit : (P : ℕ → Type 0)
    → P 0 → P 1 → P 2 → P 3 → P 4 → P 5 → P 6 → P 7 → P 8 → P 9 → P 10 → P 11 → P 12 → P 13 → P 14
    → P 15 → (value : ℕ) → value < 16 → P value
each_digit P a b c d e f g h i j k l m n o p zero lt = a
each_digit P a b c d e f g h i j k l m n o p (suc zero) lt = b
each_digit P a b c d e f g h i j k l m n o p (suc (suc zero)) lt = c
each_digit P a b c d e f g h i j k l m n o p (suc (suc (suc zero))) lt = d
each_digit P a b c d e f g h i j k l m n o p (suc (suc (suc (suc zero)))) lt = e
each_digit P a b c d e f g h i j k l m n o p (suc (suc (suc (suc (suc zero))))) lt = f
each_digit P a b c d e f g h i j k l m n o p (suc (suc (suc (suc (suc (suc zero)))))) lt = g
each_digit P a b c d e f g h i j k l m n o p (suc (suc (suc (suc (suc (suc (suc zero))))))) lt = h
each_digit P a b c d e f g h i j k l m n o p
    (suc (suc (suc (suc (suc (suc (suc (suc zero)))))))) lt =
    i
each_digit P a b c d e f g h i j k l m n o p
    (suc (suc (suc (suc (suc (suc (suc (suc (suc zero))))))))) lt =
    j
each_digit P a b c d e f g h i j k l m n o p
    (suc (suc (suc (suc (suc (suc (suc (suc (suc (suc zero)))))))))) lt =
    k
each_digit P a b c d e f g h i j k l m n o p
    (suc (suc (suc (suc (suc (suc (suc (suc (suc (suc (suc zero))))))))))) lt =
    l
each_digit P a b c d e f g h i j k l m n o p
    (suc (suc (suc (suc (suc (suc (suc (suc (suc (suc (suc (suc zero)))))))))))) lt =
    m
each_digit P a b c d e f g h i j k l m n o p
    (suc (suc (suc (suc (suc (suc (suc (suc (suc (suc (suc (suc (suc zero))))))))))))) lt =
    n
each_digit P a b c d e f g h i j k l m n o p
    (suc (suc (suc (suc (suc (suc (suc (suc (suc (suc (suc (suc (suc (suc zero)))))))))))))) lt =
    o
each_digit P a b c d e f g h i j k l m n o p (suc
    (suc (suc (suc (suc (suc (suc (suc (suc (suc (suc (suc (suc (suc (suc zero))))))))))))))) lt =
    p
each_digit P a b c d e f g h i j k l m n o p (suc (suc
    (suc (suc (suc (suc (suc (suc (suc (suc (suc (suc (suc (suc (suc (suc value)))))))))))))))) lt =
    absurd (omega arith)

digit-hex_digit : (value : ℕ) → value < 16 → digit (hex_digit value) ≡ Ok value
digit-hex_digit = each_digit (λ value. digit (hex_digit value) ≡ Ok value) refl refl refl refl refl
    refl refl refl refl refl refl refl refl refl refl refl

pub hex_hex_text : (bytes : List ℕ) → AllByRecursion (λ byte. byte < 256) bytes
    → hex (hex_text bytes) ≡ Ok bytes
unfolding hex hex_text
hex_hex_text [] fit = refl
hex_hex_text (byte ∷ rest) fit =
    let fits : byte < 256 = fit.0 in
    let high = digit-hex_digit (byte / 16) (omega arith) in
    let low = digit-hex_digit (byte % 16) (omega arith) in
    let others = hex_hex_text rest fit.1 in
    let whole : 16 * (byte / 16) + byte % 16 ≡ byte = omega arith in
    rw (high, low, others) (ap (λ (x : ℕ). Ok (x ∷ rest)) whole)
