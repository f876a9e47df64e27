-- The fields of a line, by where each ends in it.
use Rattle.std.proofs.Common.{◌≡◌, ◌≤◌, ◌<◌, ◌==◌, ◌∙◌, ◌++◌, ◌∷◌, ◌+◌, ◌-◌, ℕ, List, [], true}
use Rattle.std.proofs.Common.{false, All, length, take, map, get_or, refl, ap, sym, subst, arith}
use Rattle.std.proofs.Common.{zero, suc}
use Rattle.std.proofs.lemmas.List.{length-map}
use Rattle.line_fields.specs.Records.{Record, field, parts}
use Rattle.line_fields.specs.Rows.{IsLineEnd, IsFieldWithin, FieldSpan, begin_at, fields_held}
use Rattle.line_fields.specs.Rows.{fields_in, is_end, is_mark, part_of, spans_from}
use Rattle.line_fields.proofs.SpanLemmas.{IsCut, cut_at_comma, cut_begins, cut_ends, cut_runs}
use Rattle.line_fields.proofs.SpanLemmas.{ends_within, line_ends, span_of}

-- where the field behind the last of these ends begins
unfoldable pub begin_after : ℕ → List ℕ → ℕ
begin_after start [] = start
begin_after start (end ∷ ends) = begin_after (end + 1) ends

spans_more : (start : ℕ) (ends : List ℕ) (end : ℕ) → spans_from start (ends ++ end ∷ [])
    ≡ spans_from start ends ++ span_of (begin_after start ends) end ∷ []
unfolding spans_from begin_after
spans_more start [] end = refl
spans_more start (first ∷ ends) end =
    ap (λ (spans : List FieldSpan). span_of start first ∷ spans) (spans_more (first + 1) ends end)

begin_more : (start : ℕ) (ends : List ℕ) (end : ℕ) → begin_after start (ends ++ end ∷ []) ≡ end + 1
unfolding begin_after
begin_more start [] end = refl
begin_more start (first ∷ ends) end = begin_more (first + 1) ends end

-- a text is cut as far as a place into fields with those ends
abbrev pub IsParted : List ℕ → List ℕ → ℕ → Type 0
IsParted text ends at = IsCut text (spans_from 0 ends) (begin_after 0 ends) at

pub parted_begins : (text : List ℕ) → IsParted text [] 0
unfolding spans_from begin_after
parted_begins text = cut_begins text

pub parted_runs : (text ends : List ℕ) (at k : ℕ) → IsParted text ends at → at + k ≤ length text
    → ((i : ℕ) → at ≤ i → i < at + k → is_mark (get_or text i 0) ≡ false)
    → IsParted text ends (at + k)
parted_runs text ends at k = cut_runs text (spans_from 0 ends) (begin_after 0 ends) at k

pub parted_at_comma : (text ends : List ℕ) (at : ℕ) → IsParted text ends at → at < length text
    → get_or text at 0 ≡ 44 → IsParted text (ends ++ at ∷ []) (at + 1)
parted_at_comma text ends at so lt comma =
    subst (λ (spans : List FieldSpan). IsCut text spans (begin_after 0 (ends ++ at ∷ [])) (at + 1))
    (sym (spans_more 0 ends at))
    (subst (λ (start : ℕ). IsCut text (spans_from 0 ends ++ span_of (begin_after 0 ends) at ∷ [])
    start (at + 1)) (sym (begin_more 0 ends at))
    (cut_at_comma text (spans_from 0 ends) (begin_after 0 ends) at so lt comma))

-- the last field of a line ends with it
pub parted_within : (text ends : List ℕ) (at : ℕ) → IsParted text ends at
    → All (IsFieldWithin (take at text)) (spans_from 0 (ends ++ at ∷ []))
parted_within text ends at so =
    subst (λ (spans : List FieldSpan). All (IsFieldWithin (take at text)) spans) (sym
    (spans_more 0 ends at)) (ends_within text (spans_from 0 ends) (begin_after 0 ends) at so)

pub parted_ends : (text ends : List ℕ) (at : ℕ) → IsParted text ends at
    → fields_in (take at text) (ends ++ at ∷ []) ≡ parts 44 (take at text)
parted_ends text ends at so =
    ap (λ (spans : List FieldSpan). map (part_of (take at text)) spans)
    (spans_more 0 ends at) ∙ cut_ends text (spans_from 0 ends) (begin_after 0 ends) at so

pub parted_line : (text ends : List ℕ) (at : ℕ) → IsParted text ends at
    → (at < length text → is_end (get_or text at 0) ≡ true) → IsLineEnd text at
parted_line text ends at = line_ends text (spans_from 0 ends) (begin_after 0 ends) at

-- where the field at a place begins, if the first begins there
begins : ℕ → List ℕ → ℕ → ℕ
begins start ends zero = start
begins start ends (suc place) = get_or ends place 0 + 1

begins_more : (start first : ℕ) (ends : List ℕ) (place : ℕ)
    → begins (first + 1) ends place ≡ begins start (first ∷ ends) (suc place)
unfolding begins
begins_more start first ends zero = refl
begins_more start first ends (suc place) = refl

begins_line : (ends : List ℕ) (place : ℕ) → begins 0 ends place ≡ begin_at ends place
unfolding begins
begins_line ends zero = refl
begins_line ends (suc place) = refl

begin_further : (ends : List ℕ) (place : ℕ) → 0 < place
    → begin_at ends place ≡ get_or ends (place - 1) 0 + 1
begin_further ends zero some = absurd (omega (arith, some))
begin_further ends (suc place) some = ap (λ (n : ℕ). get_or ends n 0 + 1) (omega arith)

length-spans_from : (start : ℕ) (ends : List ℕ) → length (spans_from start ends) ≡ length ends
unfolding spans_from
length-spans_from start [] = refl
length-spans_from start (first ∷ ends) = ap suc (length-spans_from (first + 1) ends)

-- a line has as many fields as ends
pub length-fields_in : (bytes ends : List ℕ) → length (fields_in bytes ends) ≡ length ends
length-fields_in bytes ends =
    length-map (spans_from 0 ends) (part_of bytes) ∙ length-spans_from 0 ends

-- the span at a place
span_at : (start : ℕ) (ends : List ℕ) (place : ℕ) (d : FieldSpan) → place < length ends → get_or
    (spans_from start ends) place d ≡ span_of (begins start ends place) (get_or ends place 0)
unfolding spans_from begins
span_at start [] place d lt = absurd (omega (arith, lt))
span_at start (first ∷ ends) zero d lt = refl
span_at start (first ∷ ends) (suc place) d lt =
    span_at (first + 1) ends place d (omega (arith, lt)) ∙ ap
    (λ (n : ℕ). span_of n (get_or ends place 0)) (begins_more start first ends place)

span_within : (bytes ends : List ℕ) (place : ℕ) → All (IsFieldWithin bytes) (spans_from 0 ends) →
    place < length ends → IsFieldWithin bytes (span_of (begin_at ends place) (get_or ends place 0))
span_within bytes ends place all lt =
    let long = length-spans_from 0 ends in
    subst (IsFieldWithin bytes) (span_at 0 ends place (span_of 0 0) lt ∙ ap
    (λ (n : ℕ). span_of n (get_or ends place 0)) (begins_line ends place))
    (all place (span_of 0 0) (omega (arith, long, lt)))

pub within_line : (bytes items ends : List ℕ) (place : ℕ) → ends ≡ items
    → All (IsFieldWithin bytes) (spans_from 0 items) → place < length ends
    → IsFieldWithin bytes (span_of (begin_at ends place) (get_or ends place 0))
within_line bytes items ends place same all lt = span_within bytes ends place
    (subst (λ (es : List ℕ). All (IsFieldWithin bytes) (spans_from 0 es)) (sym same) all) lt

pub within_further : (bytes items ends : List ℕ) (place : ℕ) → ends ≡ items
    → All (IsFieldWithin bytes) (spans_from 0 items) → place < length ends → 0 < place
    → IsFieldWithin bytes (span_of (get_or ends (place - 1) 0 + 1) (get_or ends place 0))
within_further bytes items ends place same all lt some =
    subst (λ (n : ℕ). IsFieldWithin bytes (span_of n (get_or ends place 0)))
    (begin_further ends place some) (within_line bytes items ends place same all lt)

-- the field at a place, and past the last one
from_place : (bytes : List ℕ) (start : ℕ) (ends : List ℕ) (place : ℕ) → place < length ends
    → field (map (part_of bytes) (spans_from start ends)) place
    ≡ part_of bytes (span_of (begins start ends place) (get_or ends place 0))
unfolding spans_from begins
from_place bytes start [] place lt = absurd (omega (arith, lt))
from_place bytes start (first ∷ ends) zero lt = refl
from_place bytes start (first ∷ ends) (suc place) lt =
    from_place bytes (first + 1) ends place (omega (arith, lt))
    ∙ ap (λ (n : ℕ). part_of bytes (span_of n (get_or ends place 0)))
    (begins_more start first ends place)

field_there : (bytes ends : List ℕ) (place : ℕ) → place < length ends → field (fields_in bytes ends)
    place ≡ part_of bytes (span_of (begin_at ends place) (get_or ends place 0))
field_there bytes ends place lt = from_place bytes 0 ends place lt ∙ ap
    (λ (n : ℕ). part_of bytes (span_of n (get_or ends place 0))) (begins_line ends place)

past_last : (bytes : List ℕ) (start : ℕ) (ends : List ℕ) (place : ℕ) → length ends ≤ place
    → field (map (part_of bytes) (spans_from start ends)) place ≡ []
unfolding spans_from
past_last bytes start [] place le = refl
past_last bytes start (first ∷ ends) zero le = absurd (omega (arith, le))
past_last bytes start (first ∷ ends) (suc place) le =
    past_last bytes (first + 1) ends place (omega (arith, le))

pub no_field : (bytes ends : List ℕ) (place : ℕ) → length ends ≤ place
    → field (fields_in bytes ends) place ≡ []
no_field bytes ends place le = past_last bytes 0 ends place le

-- a row with ends has as many fields as ends, and none past the last
pub held_of_line : (bytes ends : List ℕ) (held : Record) → (length ends == 0) ≡ false
    → length (fields_held bytes ends held) ≡ length ends
held_of_line bytes [] held some = cc some
held_of_line bytes (end ∷ ends) held some = length-fields_in bytes (end ∷ ends)

pub held_past : (bytes ends : List ℕ) (held : Record) (place : ℕ) → (length ends == 0) ≡ false
    → length ends ≤ place → field (fields_held bytes ends held) place ≡ []
held_past bytes [] held place some le = cc some
held_past bytes (end ∷ ends) held place some le = no_field bytes (end ∷ ends) place le

-- the field at a place of a line
held_there : (bytes ends : List ℕ) (held : Record) (place : ℕ) → place < length ends
    → field (fields_held bytes ends held) place
    ≡ part_of bytes (span_of (begin_at ends place) (get_or ends place 0))
held_there bytes [] held place lt = absurd (omega (arith, lt))
held_there bytes (end ∷ ends) held place lt = field_there bytes (end ∷ ends) place lt

pub held_first : (bytes ends : List ℕ) (held : Record) (place : ℕ) → place < length ends → place ≡ 0
    → field (fields_held bytes ends held) place ≡ take (get_or ends place 0) bytes
held_first bytes ends held place lt first =
    let all : get_or ends place 0 - 0 ≡ get_or ends place 0 = omega arith in
    held_there bytes ends held place lt ∙ ap (λ (n : ℕ). part_of bytes
    (span_of (begin_at ends n) (get_or ends place 0))) first ∙ ap (λ (n : ℕ). take n bytes) all

pub held_further : (bytes ends : List ℕ) (held : Record) (place : ℕ) → place < length ends
    → 0 < place
    → field (fields_held bytes ends held) place
    ≡ part_of bytes (span_of (get_or ends (place - 1) 0 + 1) (get_or ends place 0))
held_further bytes ends held place lt some = held_there bytes ends held place lt ∙ ap
    (λ (n : ℕ). part_of bytes (span_of n (get_or ends place 0))) (begin_further ends place some)
