-- What is left of a text, to the reader of lines or to `csv`.
use Rattle.std.proofs.Common.{◌≡◌, ◌≢◌, get_or, ne_eqb, eqb-true, arith, ◌==◌, ◌∙◌, ◌∷◌, [], ℕ}
use Rattle.std.proofs.Common.{List, Bool, true, false, Option, Some, None, Bor, refl, sym, ap}
use Rattle.std.proofs.Common.{length}
use Rattle.std.specs.Global.{Box}
use Rattle.std.specs.Prelude.{Err, IfOk, MatchBool, Ok, OnErr, Result, is_some}
use Rattle.csv.specs.declared.reader.Reader.{Reader}
use Rattle.line_fields.specs.Bytes.{is_input_text}
use Rattle.line_fields.specs.Records.{Record, has_byte, records_of_text}
use Rattle.line_fields.specs.Rows.{IsLeft, IsReadingOn, begins_with_end, records_left, rows_left_in}
use Rattle.line_fields.proofs.TextLemmas.{empty_is_input, records_of_nothing}

-- where nothing stands apart, what is left is what `csv` has left
pub left_to_csv : (o : Option (Box (Reader (Bor (List ℕ))))) (rest : List ℕ) → rest ≡ []
    → records_left o rest ≡ rows_left_in o
left_to_csv None rest none = ap records_of_text none ∙ records_of_nothing
left_to_csv (Some r) rest none = refl

pub is_left : (o : Option (Box (Reader (Bor (List ℕ))))) (rest : List ℕ) → rest ≡ [] → IsReadingOn o
    → IsLeft o rest
is_left None rest none on = ap is_input_text none ∙ empty_is_input
is_left (Some r) rest none on = (on, none)

pub rest_is_none : (o : Option (Box (Reader (Bor (List ℕ))))) (rest : List ℕ) → is_some o ≡ true
    → IsLeft o rest → rest ≡ []
rest_is_none None rest on left = cc on
rest_is_none (Some r) rest on left = left.1

-- where `csv` doesn't read, what is left is the text
pub left_in_lines : (o : Option (Box (Reader (Bor (List ℕ))))) (rest : List ℕ) → is_some o ≡ false
    → records_left o rest ≡ records_of_text rest
left_in_lines None rest off = refl
left_in_lines (Some r) rest off = cc off

pub is_left_in_lines : (o : Option (Box (Reader (Bor (List ℕ))))) (rest : List ℕ)
    → is_some o ≡ false → is_input_text rest ≡ true → IsLeft o rest
is_left_in_lines None rest off input = input
is_left_in_lines (Some r) rest off input = cc off

-- what was left before and what is left now are these records
pub told : {E : Type 0} (r : Result Bool E) (before after old new : List Record) (row : Record)
    → before ≡ old → after ≡ new
    → IfOk r (λ found. MatchBool found (old ≡ row ∷ new) ((old ≡ []) × (new ≡ []) × (row ≡ [])))
    → IfOk r (λ found. MatchBool found (before ≡ row ∷ after)
    ((before ≡ []) × (after ≡ []) × (row ≡ [])))
told (Ok true) before after old new row b a h =
    b ∙ h ∙ ap (λ (records : List Record). row ∷ records) (sym a)
told (Ok false) before after old new row b a h = (b ∙ h.0, a ∙ h.1, h.2)
told (Err e) before after old new row b a h = tt

pub told_refused : {E : Type 0} (r : Result Bool E) (after new : List Record) (row : Record)
    → after ≡ new → OnErr r ((new ≡ []) × (row ≡ [])) → OnErr r ((after ≡ []) × (row ≡ []))
told_refused (Ok found) after new row a h = tt
told_refused (Err e) after new row a h = (a ∙ h.0, h.1)

pub on_any_err : {A E : Type 0} (r : Result A E) (P : Type 0) → P → OnErr r P
on_any_err (Ok found) P h = tt
on_any_err (Err e) P h = h

-- a text that is not empty begins with a byte
pub byte_first : (text : List ℕ) → (length text == 0) ≡ false → has_byte text ≡ true
byte_first [] some = cc some
byte_first (byte ∷ rest) some = refl

pub nothing_there : (text : List ℕ) → (length text == 0) ≡ true → text ≡ []
nothing_there [] none = refl
nothing_there (byte ∷ rest) none =
    let at = eqb-true (length (byte ∷ rest)) 0 none in absurd (omega (arith, at))

-- it begins with no end of a line where it begins with neither of the two
pub no_end_first : (text : List ℕ) → get_or text 0 0 ≢ 10 → get_or text 0 0 ≢ 13
    → begins_with_end text ≡ false
no_end_first [] feed return = refl
no_end_first (byte ∷ rest) feed return = rw (ne_eqb byte 10 feed, ne_eqb byte 13 return) refl
