-- Fields that need no quotes, and the text of a record of such fields.
use Rattle.std.proofs.Common.{◌≡◌, ◌<◌, ℕ, ◌/◌, ◌%◌, ◌^◌, ◌==◌, Bool, true, false, not, List, []}
use Rattle.std.proofs.Common.{◌∷◌, ◌++◌, length, get_or, suc, refl, sym, ap, subst, ◌∙◌, inl, inr}
use Rattle.std.proofs.Common.{arith, ne_eqb}
use Rattle.std.specs.Prelude.{nat_le, decimal}
use Rattle.std.specs.Char.{is_ascii_digit}
use Rattle.std.specs.Str.{all_ascii_digits}
use Rattle.std.specs.List.{list_all, list_any, join_with_byte}
use Rattle.std.proofs.lemmas.List.{append-nil}
use Rattle.std.proofs.lemmas.Bool.{and_parts, cases_Bool, eqb-true}
use borrow.Author.Tests.{leb-true, le-leb}
use Rattle.csv.specs.Writing.{default_writer, field_text, fields_text, is_blank, needs_byte}
use Rattle.csv.specs.Writing.{row_body, row_text, with_flexible}
use Rattle.csv.specs.declared.writer.WriterBuilder.{WriterBuilder}
use Rattle.line_fields.specs.Records.{Record}
use Rattle.line_fields.specs.Texts.{has_name, hex_digit, hex_text, is_field_byte, is_plain_field}
use Rattle.line_fields.specs.Texts.{record_text}
use Rattle.line_fields.proofs.RoundLemmas.{all_ascii_digits-decimal, each_digit}

digit_is_plain : (c : ℕ) → is_ascii_digit c ≡ true → is_field_byte c ≡ true
digit_is_plain c h =
    let p = and_parts (nat_le 48 c) (nat_le c 57) h in
    let low = leb-true 48 c p.0 in
    let high = leb-true c 57 p.1 in
    rw (
      le-leb 32 c (omega arith),
      le-leb c 126 (omega arith),
      ne_eqb c 34
          (λ e. omega arith),
      ne_eqb c 44 (λ e. omega arith),
    ) refl

digits_are_plain : (text : List ℕ) → all_ascii_digits text ≡ true → is_plain_field text ≡ true
digits_are_plain [] h = refl
digits_are_plain (c ∷ rest) h =
    let p = and_parts (is_ascii_digit c) (all_ascii_digits rest) h in
    rw (digit_is_plain c p.0, digits_are_plain rest p.1) refl

pub plain_decimal : (n : ℕ) → n < 2 ^ 64 → is_plain_field (decimal n) ≡ true
plain_decimal n fits = digits_are_plain (decimal n) (all_ascii_digits-decimal n fits)

plain_digit : (value : ℕ) → value < 16 → is_field_byte (hex_digit value) ≡ true
plain_digit = each_digit (λ value. is_field_byte (hex_digit value) ≡ true) refl refl refl refl refl
    refl refl refl refl refl refl refl refl refl refl refl

pub plain_hex : (bytes : List ℕ) → ((i : ℕ) → get_or bytes i 0 < 256)
    → is_plain_field (hex_text bytes) ≡ true
unfolding hex_text
plain_hex [] fit = refl
plain_hex (byte ∷ rest) fit =
    let fits : byte < 256 = fit 0 in
    let high = plain_digit (byte / 16) (omega arith) in
    let low = plain_digit (byte % 16) (omega arith) in
    rw (high, low) (plain_hex rest (λ i. fit (suc i)))

-- the writer that records are written by
abbrev plain_writer : WriterBuilder
plain_writer = with_flexible default_writer true

pub not_mark : (b mark : ℕ) → is_field_byte b ≡ true → is_field_byte mark ≡ false
    → (b == mark) ≡ false
not_mark b mark plain bad = elim (cases_Bool (b == mark)) [
  | inl same ↦ let at : is_field_byte mark ≡ true =
      subst (λ n. is_field_byte n ≡ true) (eqb-true b mark same) plain in cc (sym bad ∙ at)
  | inr other ↦ other
]

no_quotes_byte : (b : ℕ) → is_field_byte b ≡ true → needs_byte plain_writer b ≡ false
no_quotes_byte b plain = rw (
  not_mark b 44 plain refl,
  not_mark b 34 plain refl,
  not_mark b 13 plain
      refl,
  not_mark b 10 plain refl,
) refl

no_quotes : (field : List ℕ) → is_plain_field field ≡ true
    → list_any (needs_byte plain_writer) field ≡ false
no_quotes [] plain = refl
no_quotes (b ∷ rest) plain =
    let p = and_parts (is_field_byte b) (is_plain_field rest) plain in
    rw (no_quotes_byte b p.0, no_quotes rest p.1) refl

pub field_text-plain : (field : List ℕ) → is_plain_field field ≡ true
    → field_text plain_writer field ≡ field
field_text-plain field plain = rw (no_quotes field plain) refl

-- the fields of a plain record are joined by commas
body_is : (field : List ℕ) (others : Record) → is_plain_field field ≡ true → list_all is_plain_field
    others ≡ true → row_body plain_writer (field ∷ others) ≡ join_with_byte 44 (field ∷ others)
unfolding fields_text
body_is field [] plain rest = rw (field_text-plain field plain) (append-nil field)
body_is field (next ∷ others) plain rest =
    let p = and_parts (is_plain_field next) (list_all is_plain_field others) rest in
    rw (field_text-plain field plain)
    (ap (λ (t : List ℕ). field ++ (44 ∷ t)) (body_is next others p.0 p.1))

pub not_true : (b : Bool) → not b ≡ true → b ≡ false
not_true true h = cc h
not_true false h = refl

-- such a record is no blank one, and is written without quotes
pub row_text-plain : (fields : Record) → list_all is_plain_field fields ≡ true
    → has_name fields ≡ true → row_text plain_writer fields ≡ record_text fields
unfolding is_blank
row_text-plain [] plain named = cc named
row_text-plain (field ∷ []) plain named =
    let p = and_parts (is_plain_field field) true plain in
    let shown : (length (field_text plain_writer field) == 0)
    ≡ false = rw (field_text-plain field p.0) (not_true (length field == 0) named) in
    rw shown (ap (λ (t : List ℕ). t ++ (10 ∷ [])) (body_is field [] p.0 refl))
row_text-plain (field ∷ next ∷ others) plain named =
    let p = and_parts (is_plain_field field) (list_all is_plain_field (next ∷ others)) plain in
    ap (λ (t : List ℕ). t ++ (10 ∷ [])) (body_is field (next ∷ others) p.0 p.1)
