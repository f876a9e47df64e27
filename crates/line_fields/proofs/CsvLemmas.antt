-- The records that `csv` reads of a text are the rows that its machine makes of it.
use Rattle.std.proofs.Common.{◌≡◌, ◌≤◌, ◌<◌, ◌∙◌, ◌++◌, ◌∷◌, ◌+◌, [], ℕ, zero, suc, List, Bool}
use Rattle.std.proofs.Common.{true, false, cond, Option, Some, None, length, refl, sym, ap, inl}
use Rattle.std.proofs.Common.{inr, arith}
use Rattle.std.proofs.lemmas.Bool.{cases_Bool}
use Rattle.std.specs.Prelude.{⊤}
use Rattle.csv.specs.Machine.{Read, step, is_end, fields_after, field_after, ends_at_end}
use Rattle.csv.specs.Machine.{next_record}
use Rattle.csv.specs.Reading.{default_config, records, records_from, records_next, strip_bom}
use Rattle.csv.specs.declared.parser.State.{State}
use Rattle.csv.specs.declared.parser.State.TheVariants as st
use Rattle.line_fields.specs.Bytes.{is_input_text}
use Rattle.line_fields.specs.Records.{records_of_text}
use Rattle.line_fields.specs.Rows.{rows_from}
use Rattle.line_fields.proofs.MachineLemmas.{no_byte_order_mark, rows_of_text}
use Rattle.line_fields.proofs.RowLemmas.{rows_of_next, rows_then}

-- what a read leaves is no longer than this
abbrev leaves_most : ℕ → Option Read → Type 0
leaves_most most None = ⊤
leaves_most most (Some p) = length p.2 ≤ most

either_leaves : (most : ℕ) (b : Bool) (p : Read) (o : Option Read) → length p.2 ≤ most
    → leaves_most most o → leaves_most most (cond b (Some p) o)
either_leaves most true p o first other = first
either_leaves most false p o first other = other

leaves_less : (less most : ℕ) (o : Option Read) → less ≤ most → leaves_most less o
    → leaves_most most o
leaves_less less most None le h = tt
leaves_less less most (Some p) le h = omega (arith, le, h)

-- how many bytes may be left of a text of which a byte was read, if it has one
after_first : List ℕ → ℕ
after_first [] = 0
after_first (c ∷ rest) = length rest

after_first_le : (xs : List ℕ) → after_first xs ≤ length xs
unfolding after_first
after_first_le [] = omega arith
after_first_le (c ∷ rest) = omega arith

read_leaves : (s : State) (fields : List (List ℕ)) (field xs : List ℕ)
    → leaves_most (after_first xs) (next_record default_config s fields field xs)
unfolding next_record after_first
read_leaves s fields field [] = either_leaves 0 (ends_at_end s)
    (fields ++ (field ∷ []), st.StartRecord, []) None (omega arith) tt
read_leaves s fields field (c ∷ rest) =
    let next : Option Read = next_record default_config (step default_config s c).0
    (fields_after (step default_config s c).1 fields field)
    (field_after (step default_config s c).1 c field) rest in
    either_leaves (length rest) (is_end (step default_config s c).1) (
      fields_after (step
          default_config s c).1 fields field,
      (step default_config s c).0,
      rest,
    ) next (omega arith)
    (leaves_less (after_first rest) (length rest) next (after_first_le rest)
    (read_leaves (step default_config s c).0 (fields_after (step default_config s c).1 fields field)
    (field_after (step default_config s c).1 c field) rest))

-- nothing is read of no text
none_left : (n : ℕ) → records_from default_config n st.StartRecord [] ≡ []
unfolding records_from next_record
none_left zero = refl
none_left (suc n) = refl

-- at the end of a text a record may be left
last_read : (n : ℕ) (s : State) → records_from default_config (suc n) s [] ≡ rows_from s [] [] []
unfolding records_from next_record rows_from
last_read n s = elim (cases_Bool (ends_at_end s)) [
  | inl e ↦ rw e (ap (λ (others : List (List (List ℕ))). ([] ∷ []) ∷ others) (none_left n))
  | inr e ↦ rw e refl
]

-- what a read gives, and the records after it
read_then : (n most : ℕ) (o : Option Read) → most < n → leaves_most most o
    → ((s : State) (xs : List ℕ) → length xs < n
    → records_from default_config n s xs ≡ rows_from s [] [] xs)
    → records_next (records_from default_config n) o ≡ rows_then o
unfolding rows_then
read_then n most None lt h rows = refl
read_then n most (Some p) lt h rows =
    ap (λ (others : List (List (List ℕ))). p.0 ∷ others) (rows p.1 p.2 (omega (arith, lt, h)))

-- as many reads as a text has bytes, and one, give all its rows
rows_in_turn : (n : ℕ) (s : State) (xs : List ℕ) → length xs < n
    → records_from default_config n s xs ≡ rows_from s [] [] xs
unfolding records_from after_first
rows_in_turn zero s xs lt = absurd (omega (arith, lt))
rows_in_turn (suc n) s [] lt = last_read n s
rows_in_turn (suc n) s (c ∷ rest) lt =
    read_then n (length rest) (next_record default_config s [] [] (c ∷ rest)) (omega (arith, lt))
    (read_leaves s [] [] (c ∷ rest)) (rows_in_turn n)
    ∙ sym (rows_of_next s [] [] (c ∷ rest))

pub records_are : (text : List ℕ) → is_input_text text ≡ true
    → records default_config (strip_bom text) ≡ records_of_text text
records_are text plain =
    ap (λ (xs : List ℕ). records default_config xs) (no_byte_order_mark text plain)
    ∙ rows_in_turn (length text + 1) st.StartRecord text (omega arith) ∙ rows_of_text text plain
