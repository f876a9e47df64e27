-- The records of a text that was written are those that were written.
use Rattle.std.proofs.Common.{◌≡◌, ℕ, ◌==◌, ◌&&◌, Bool, true, false, not, List, [], ◌∷◌, ◌++◌, refl}
use Rattle.std.proofs.Common.{ap, ◌∙◌, append_assoc, eq-eqb}
use Rattle.std.specs.Prelude.{nat_le}
use Rattle.std.specs.List.{list_all, join_with_byte}
use Rattle.std.proofs.lemmas.List.Folds.{list_all-append}
use Rattle.std.proofs.lemmas.Bool.{and_parts}
use Rattle.line_fields.specs.Bytes.{is_input_text}
use Rattle.line_fields.specs.Records.{Record, cut, has_byte, parts, records_of_lines}
use Rattle.line_fields.specs.Records.{records_of_text, without}
use Rattle.line_fields.specs.Texts.{has_name, is_field_byte, is_plain_field, is_written}
use Rattle.line_fields.specs.Texts.{record_text, records_text}
use Rattle.line_fields.proofs.PlainLemmas.{not_mark, not_true}

-- no byte of a list is the mark
abbrev pub is_clear : ℕ → List ℕ → Bool
is_clear mark xs = list_all (λ b. not (b == mark)) xs

not_same : (b mark : ℕ) → not (b == mark) ≡ true → (b == mark) ≡ false
not_same b mark h = not_true (b == mark) h

pub cut-clear : (mark : ℕ) (xs : List ℕ) → is_clear mark xs ≡ true → cut mark xs ≡ (xs, [])
unfolding cut
cut-clear mark [] clear = refl
cut-clear mark (b ∷ rest) clear =
    let p = and_parts (not (b == mark)) (is_clear mark rest) clear in
    rw (not_same b mark p.0, cut-clear mark rest p.1) refl

-- a clear list, the mark, and what follows it
cut-mark : (mark : ℕ) (xs rest : List ℕ) → is_clear mark xs ≡ true
    → cut mark (xs ++ (mark ∷ rest)) ≡ (xs, parts mark rest)
unfolding cut
cut-mark mark [] rest clear = rw (eq-eqb mark mark refl) refl
cut-mark mark (b ∷ xs) rest clear =
    let p = and_parts (not (b == mark)) (is_clear mark xs) clear in
    rw (not_same b mark p.0, cut-mark mark xs rest p.1) refl

pub parts-mark : (mark : ℕ) (xs rest : List ℕ) → is_clear mark xs ≡ true
    → parts mark (xs ++ (mark ∷ rest)) ≡ xs ∷ parts mark rest
parts-mark mark xs rest clear = rw (cut-mark mark xs rest clear) refl

pub parts-clear : (mark : ℕ) (xs : List ℕ) → is_clear mark xs ≡ true → parts mark xs ≡ xs ∷ []
parts-clear mark xs clear = rw (cut-clear mark xs clear) refl

pub without-clear : (mark : ℕ) (xs ys : List ℕ) → is_clear mark xs ≡ true
    → without mark (xs ++ ys) ≡ xs ++ without mark ys
unfolding without
without-clear mark [] ys clear = refl
without-clear mark (b ∷ xs) ys clear =
    let p = and_parts (not (b == mark)) (is_clear mark xs) clear in
    rw (not_same b mark p.0, without-clear mark xs ys p.1) refl

-- a byte that no written field has
pub plain_is_clear : (mark : ℕ) (xs : List ℕ) → is_field_byte mark ≡ false
    → is_plain_field xs ≡ true → is_clear mark xs ≡ true
plain_is_clear mark [] bad plain = refl
plain_is_clear mark (b ∷ rest) bad plain =
    let p = and_parts (is_field_byte b) (is_plain_field rest) plain in
    rw (not_mark b mark p.0 bad, plain_is_clear mark rest bad p.1) refl

-- nor has a line, but for the commas
line_is_clear : (mark : ℕ) (fields : Record) → is_field_byte mark ≡ false → (44 == mark) ≡ false
    → list_all is_plain_field fields ≡ true → is_clear mark (join_with_byte 44 fields) ≡ true
line_is_clear mark [] bad other plain = refl
line_is_clear mark (field ∷ []) bad other plain =
    let p = and_parts (is_plain_field field) true plain in plain_is_clear mark field bad p.0
line_is_clear mark (field ∷ next ∷ others) bad other plain =
    let p = and_parts (is_plain_field field) (list_all is_plain_field (next ∷ others)) plain in
    rw (
      list_all-append (λ b. not (b == mark)) field
          (44 ∷ join_with_byte 44 (next ∷ others)),
      plain_is_clear mark field bad p.0,
      other,
      line_is_clear mark (next ∷ others) bad other p.1,
    ) refl

-- the fields of a line are those that were joined
fields_of_line : (field : List ℕ) (others : Record) → list_all is_plain_field (field ∷ others)
    ≡ true → parts 44 (join_with_byte 44 (field ∷ others)) ≡ field ∷ others
fields_of_line field [] plain =
    let p = and_parts (is_plain_field field) true plain in parts-clear 44 field
    (plain_is_clear 44 field refl p.0)
fields_of_line field (next ∷ others) plain =
    let p = and_parts (is_plain_field field) (list_all is_plain_field (next ∷ others)) plain in
    parts-mark 44 field (join_with_byte 44 (next ∷ others)) (plain_is_clear 44 field refl p.0) ∙ ap
    (λ (r : Record). field ∷ r) (fields_of_line next others p.1)

-- a record with a name has a line with a byte
named_line : (fields : Record) → has_name fields ≡ true → has_byte (join_with_byte 44 fields) ≡ true
named_line [] named = cc named
named_line ([] ∷ others) named = cc named
named_line ((b ∷ bs) ∷ []) named = refl
named_line ((b ∷ bs) ∷ next ∷ others) named = refl

kept : (line : List ℕ) (lines : List (List ℕ)) → has_byte line ≡ true
    → records_of_lines (line ∷ lines) ≡ parts 44 line ∷ records_of_lines lines
kept line lines some = rw some refl

joined : (fields : Record) → has_name fields ≡ true → list_all is_plain_field fields ≡ true
    → parts 44 (join_with_byte 44 fields) ≡ fields
joined [] named plain = cc named
joined (field ∷ others) named plain = fields_of_line field others plain

-- the first record of a text that was written
first_record : (fields : Record) (rest : List ℕ) → has_name fields ≡ true → list_all is_plain_field
    fields ≡ true → records_of_text (record_text fields ++ rest) ≡ fields ∷ records_of_text rest
unfolding without
first_record fields rest named plain =
    let line = join_with_byte 44 fields in
    let grouped : (line ++ (10 ∷ [])) ++ rest
    ≡ line ++ (10 ∷ rest) = append_assoc line (10 ∷ []) rest in
    let fed : without 13 (line ++ (10 ∷ rest)) ≡ line ++ (10 ∷ without 13 rest) = without-clear 13
    line (10 ∷ rest) (line_is_clear 13 fields refl refl plain) in
    let cut_at : parts 10 (line ++ (10 ∷ without 13 rest)) ≡ line ∷ parts 10 (without 13 rest) =
    parts-mark 10 line (without 13 rest) (line_is_clear 10 fields refl refl plain) in
    ap records_of_text grouped ∙ ap (λ (t : List ℕ). records_of_lines (parts 10 t)) fed ∙ ap
    records_of_lines cut_at ∙ kept line (parts 10 (without 13 rest)) (named_line fields named)
    ∙ ap (λ (r : Record). r ∷ records_of_text rest) (joined fields named plain)

-- bytes from the blank to the tilde but the double quote
abbrev is_visible : ℕ → Bool
is_visible b = nat_le 32 b && nat_le b 126 && not (b == 34)

visible_then : (xs ys : List ℕ) → list_all is_visible xs ≡ true
    → is_input_text (xs ++ ys) ≡ is_input_text ys
unfolding is_input_text
visible_then [] ys h = refl
visible_then (b ∷ rest) ys h =
    let p = and_parts (is_visible b) (list_all is_visible rest) h in
    rw p.0 (visible_then rest ys p.1)

plain_is_visible : (xs : List ℕ) → is_plain_field xs ≡ true → list_all is_visible xs ≡ true
plain_is_visible [] plain = refl
plain_is_visible (b ∷ rest) plain =
    let p = and_parts (is_field_byte b) (is_plain_field rest) plain in
    let q = and_parts (is_visible b) (not (b == 44)) p.0 in
    rw (q.0, plain_is_visible rest p.1) refl

line_is_visible : (fields : Record) → list_all is_plain_field fields ≡ true
    → list_all is_visible (join_with_byte 44 fields) ≡ true
line_is_visible [] plain = refl
line_is_visible (field ∷ []) plain =
    let p = and_parts (is_plain_field field) true plain in plain_is_visible field p.0
line_is_visible (field ∷ next ∷ others) plain =
    let p = and_parts (is_plain_field field) (list_all is_plain_field (next ∷ others)) plain in
    rw (
      list_all-append is_visible field (44 ∷ join_with_byte 44 (next ∷ others)),
      plain_is_visible
          field p.0,
      line_is_visible (next ∷ others) p.1,
    ) refl

line_then : (fields : Record) (rest : List ℕ) → list_all is_plain_field fields ≡ true
    → is_input_text (record_text fields ++ rest) ≡ is_input_text rest
unfolding is_input_text
line_then fields rest plain =
    let line = join_with_byte 44 fields in
    ap is_input_text (append_assoc line (10 ∷ []) rest) ∙ visible_then line (10 ∷ rest)
    (line_is_visible fields plain)

pub written_is_input : (records : List Record) → list_all is_written records ≡ true
    → is_input_text (records_text records) ≡ true
unfolding is_input_text
written_is_input [] h = refl
written_is_input (fields ∷ others) h =
    let p = and_parts (is_written fields) (list_all is_written others) h in
    let q = and_parts (has_name fields) (list_all is_plain_field fields) p.0 in
    line_then fields (records_text others) q.1 ∙ written_is_input others p.1

pub written_is_read : (records : List Record) → list_all is_written records ≡ true
    → records_of_text (records_text records) ≡ records
unfolding cut without
written_is_read [] h = refl
written_is_read (fields ∷ others) h =
    let p = and_parts (is_written fields) (list_all is_written others) h in
    let q = and_parts (has_name fields) (list_all is_plain_field fields) p.0 in
    first_record fields (records_text others) q.0 q.1 ∙ ap (λ (rs : List Record). fields ∷ rs)
    (written_is_read others p.1)
