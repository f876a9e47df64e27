-- The rows that csv's machine makes of an input text are its records.
use Rattle.std.proofs.Common.{◌≡◌, ◌∙◌, ◌++◌, ◌∷◌, [], ℕ, List, true, false, ◌==◌, refl, sym, ap}
use Rattle.std.proofs.Common.{subst, inl, inr, append_assoc}
use Rattle.std.proofs.lemmas.List.{append-nil}
use Rattle.std.proofs.lemmas.Bool.{and_parts, cases_Bool, eqb-true}
use Rattle.csv.specs.declared.parser.State.TheVariants as st
use Rattle.csv.specs.Reading.{strip_bom}
use Rattle.line_fields.specs.Bytes.{begins_with_feed, is_input_byte, is_input_text}
use Rattle.line_fields.specs.Records.{Record, without, cut, records_of_lines, records_of_text}
use Rattle.line_fields.specs.Rows.{rows_from}

-- a byte that is allowed is no byte that isn't
not_byte : (c byte : ℕ) (rest : List ℕ) → is_input_byte c rest ≡ true
    → is_input_byte byte rest ≡ false → (c == byte) ≡ false
not_byte c byte rest allowed bad = elim (cases_Bool (c == byte)) [
  | inl same ↦ let at : is_input_byte byte rest ≡ true =
      subst (λ n. is_input_byte n rest ≡ true) (eqb-true c byte same) allowed in cc (sym bad ∙ at)
  | inr other ↦ other
]

first_and_rest : (c : ℕ) (rest : List ℕ) → is_input_text (c ∷ rest) ≡ true
    → (is_input_byte c rest ≡ true) × (is_input_text rest ≡ true)
unfolding is_input_text
first_and_rest c rest plain = and_parts (is_input_byte c rest) (is_input_text rest) plain

-- an input text has no byte order mark
pub no_byte_order_mark : (xs : List ℕ) → is_input_text xs ≡ true → strip_bom xs ≡ xs
unfolding strip_bom
no_byte_order_mark [] plain = refl
no_byte_order_mark (a ∷ []) plain = refl
no_byte_order_mark (a ∷ b ∷ []) plain = refl
no_byte_order_mark (a ∷ b ∷ c ∷ rest) plain =
    rw (not_byte a 0xEF (b ∷ c ∷ rest) (first_and_rest a (b ∷ c ∷ rest) plain).0 refl) refl

-- the rows of a text that goes on with a record: these fields, a field that began with these bytes,
-- and the rest of its line
abbrev rows_in : Record → List ℕ → List ℕ → List Record
rows_in fields field xs =
    (fields ++ ((field ++ (cut 44 (cut 10 (without 13 xs)).0).0)
    ∷ (cut 44 (cut 10 (without 13 xs)).0).1)) ∷ records_of_lines (cut 10 (without 13 xs)).1

-- from inside a field the machine gives those rows
abbrev FromInside : List ℕ → Type 0
FromInside xs = (fields : Record) (field : List ℕ)
    → rows_from st.InField fields field xs ≡ rows_in fields field xs

-- from the start of a record it gives the records of the text
abbrev FromStart : List ℕ → Type 0
FromStart xs = rows_from st.StartRecord [] [] xs ≡ records_of_text xs

-- with no quotes, the start of a field is as its inside
start_of_field : (fields : Record) (field xs : List ℕ) → is_input_text xs ≡ true
    → rows_from st.StartField fields field xs ≡ rows_from st.InField fields field xs
unfolding rows_from
start_of_field fields field [] plain = refl
start_of_field fields field (c ∷ rest) plain =
    rw (not_byte c 34 rest (first_and_rest c rest plain).0 refl) refl

-- after a carriage return a line feed is skipped, as it is at the start of a record
after_return : (xs : List ℕ) → rows_from st.AfterCr [] [] xs ≡ rows_from st.StartRecord [] [] xs
unfolding rows_from
after_return [] = refl
after_return (c ∷ rest) = elim (cases_Bool (c == 10)) [
  | inl feed ↦ let at = eqb-true c 10 feed in let no_return : (c == 13)
      ≡ false = rw at refl in rw (no_return, feed) refl
  | inr other ↦ rw other refl
]

-- a comma ends a field
comma_inside : (rest : List ℕ) → is_input_text rest ≡ true → FromInside rest
    → FromInside (44 ∷ rest)
unfolding rows_from cut without
comma_inside rest plain inside fields field =
    let line = (cut 10 (without 13 rest)).0 in
    start_of_field (fields ++ (field ∷ [])) [] rest plain ∙
    (inside (fields ++ (field ∷ [])) [] ∙ rw (
      append_assoc fields (field ∷ [])
          ((cut 44 line).0 ∷ (cut 44 line).1),
      append-nil field,
    ) refl)

-- a line feed ends a record
feed_inside : (rest : List ℕ) → FromStart rest → FromInside (10 ∷ rest)
unfolding rows_from cut without
feed_inside rest start fields field =
    rw (append-nil field) (ap (λ rows. (fields ++ (field ∷ [])) ∷ rows) start)

-- so does a carriage return, before a line feed
return_inside : (rest : List ℕ) → begins_with_feed rest ≡ true → FromStart rest
    → FromInside (13 ∷ rest)
unfolding rows_from cut without
return_inside [] feed start fields field = cc feed
return_inside (c ∷ rest) feed start fields field =
    let at = eqb-true c 10 feed in
    let no_return : (c == 13) ≡ false = rw at refl in
    let ended : rows_from st.InField fields field (13 ∷ c ∷ rest)
    ≡ (fields ++ (field ∷ [])) ∷ records_of_lines (cut 10 (without 13 (c ∷ rest))).1 =
    ap (λ rows. (fields ++ (field ∷ [])) ∷ rows)
    (after_return (c ∷ rest) ∙ (start ∙ rw (no_return, feed) refl))
    in
    ended ∙ rw (no_return, feed) (rw (append-nil field) refl)

-- any other byte is one more byte of the field
other_inside : (c : ℕ) (rest : List ℕ) → (c == 44) ≡ false → (c == 10) ≡ false → (c == 13) ≡ false
    → FromInside rest → FromInside (c ∷ rest)
unfolding rows_from cut without
other_inside c rest no_comma no_feed no_return inside fields field =
    rw (no_return, no_feed, no_comma) (inside fields (field ++ (c ∷ [])) ∙ rw
    (append_assoc field (c ∷ []) (cut 44 (cut 10 (without 13 rest)).0).0) refl)

-- at the start of a record a line feed and a carriage return are skipped
feed_at_start : (rest : List ℕ) → FromStart rest → FromStart (10 ∷ rest)
unfolding rows_from cut without
feed_at_start rest start = start

return_at_start : (rest : List ℕ) → FromStart rest → FromStart (13 ∷ rest)
unfolding rows_from cut without
return_at_start rest start = start

-- any other byte begins a record
other_at_start : (c : ℕ) (rest : List ℕ) → is_input_byte c rest ≡ true → (c == 10) ≡ false
    → (c == 13) ≡ false → FromInside (c ∷ rest) → FromStart (c ∷ rest)
unfolding rows_from cut without
other_at_start c rest allowed no_feed no_return inside =
    let same : rows_from st.StartRecord [] [] (c ∷ rest) ≡ rows_from st.InField [] []
    (c ∷ rest) = rw (no_return, no_feed, not_byte c 34 rest allowed refl) refl in
    same ∙ (inside [] [] ∙ rw (no_return, no_feed) refl)

rows_are : (xs : List ℕ) → is_input_text xs ≡ true → FromInside xs × FromStart xs
unfolding rows_from cut without
rows_are [] plain = ((λ fields field. rw (append-nil field) refl), refl)
rows_are (c ∷ rest) plain =
    let (allowed, others) = first_and_rest c rest plain in
    let (inside, start) = rows_are rest others in
    elim (cases_Bool (c == 10)) [
      | inl feed ↦
          let at = sym (eqb-true c 10 feed) in (
            subst (λ n. FromInside (n ∷ rest)) at (feed_inside rest start),
            subst
                (λ n. FromStart (n ∷ rest)) at (feed_at_start rest start),
          )
      | inr no_feed ↦ elim (cases_Bool (c == 13)) [
        | inl return ↦
            let at = eqb-true c 13 return in
            let before_feed : begins_with_feed rest
            ≡ true = subst (λ n. is_input_byte n rest ≡ true) at allowed in (
              subst (λ n. FromInside (n ∷ rest)) (sym at) (return_inside rest before_feed start),
              subst (λ n. FromStart (n ∷ rest)) (sym at) (return_at_start rest start),
            )
        | inr no_return ↦ elim (cases_Bool (c == 44)) [
          | inl comma ↦
              let here = subst (λ n. FromInside (n ∷ rest)) (sym (eqb-true c 44 comma))
              (comma_inside rest others inside) in
              (here, other_at_start c rest allowed no_feed no_return here)
          | inr no_comma ↦
              let here = other_inside c rest no_comma no_feed no_return inside in
              (here, other_at_start c rest allowed no_feed no_return here)
        ]
      ]
    ]

pub rows_of_text : (xs : List ℕ) → is_input_text xs ≡ true
    → rows_from st.StartRecord [] [] xs ≡ records_of_text xs
rows_of_text xs plain = (rows_are xs plain).1
