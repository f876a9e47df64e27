-- The first line of a plain text, whose end was found with its fields.
use Rattle.std.proofs.Common.{◌≡◌, ◌<◌, ◌≤◌, ℕ, suc, ◌+◌, ◌||◌, Bool, true, false, cond, List, []}
use Rattle.std.proofs.Common.{◌∷◌, ◌++◌, drop, get_or, length, take, refl, sym, ap, ◌∙◌, inl, inr}
use Rattle.std.proofs.Common.{arith, le-leb}
use Rattle.std.specs.Prelude.{◌==◌, not, Ok, Err, Result}
use Rattle.std.proofs.lemmas.Bool.{cases_lt, eqb-true, false_from_ne_true, false≢true, lt-leb}
use Rattle.std.proofs.lemmas.List.{append-nil, drop_more, get_or-drop, length-drop, length-take-le}
use Rattle.std.proofs.lemmas.List.{take-append-drop, take_all, take_more}
use Rattle.line_fields.specs.declared.faults.Fault.{Fault}
use Rattle.line_fields.specs.declared.faults.Fault.TheVariants.{BadRecord}
use Rattle.line_fields.specs.Bytes.{begins_with_feed, is_input_byte, is_input_text}
use Rattle.line_fields.specs.Records.{Record, parts, without}
use Rattle.line_fields.specs.Rows.{IsLineEnd, has_no_end, is_end}
use Rattle.line_text.specs.declared.limits.TheConstants.{MOST_LINE}
use Rattle.line_text.specs.Lines.{IsFirstFeed, Kept, ended_record, has_no_feed}
use Rattle.line_text.specs.Lines.{pending_after, record_of}
use Rattle.line_text.specs.Progress.{row_records}
use Rattle.line_text.proofs.AllowedLemmas.{input_cons}
use Rattle.line_text.proofs.LineLemmas.{both_true, gets_dropped, no_feed_of, no_feed_parts}
use Rattle.line_text.proofs.LineLemmas.{stays_kept}
use Rattle.line_text.proofs.TextLemmas.{input_front, without_cons, without_here}
use Rattle.line_text.proofs.TextLemmas.{without_nil}

-- ---- bytes that end no line

neither_of : (one other : Bool) → not (one || other) ≡ true → (one ≡ false) × (other ≡ false)
neither_of true other h = absurd (false≢true h)
neither_of false true h = absurd (false≢true h)
neither_of false false h = (refl, refl)

-- one of two, where the other does not hold
one_of : (one other : Bool) → (one || other) ≡ true → other ≡ false → one ≡ true
one_of true other h none = refl
one_of false other h none = sym none ∙ h

no_end_parts : (byte : ℕ) (rest : List ℕ) → has_no_end (byte ∷ rest) ≡ true
    → ((byte == 10) ≡ false) × ((byte == 13) ≡ false) × (has_no_end rest ≡ true)
no_end_parts byte rest h =
    let both = both_true (not (is_end byte)) (has_no_end rest) h in
    let neither = neither_of (byte == 10) (byte == 13) both.0 in
    (neither.0, neither.1, both.1)

pub no_feed_among : (bytes : List ℕ) → has_no_end bytes ≡ true → has_no_feed bytes ≡ true
no_feed_among [] h = refl
no_feed_among (byte ∷ rest) h = let parts = no_end_parts byte rest h in no_feed_of byte rest parts.0
    (no_feed_among rest parts.2)

no_return_among : (bytes behind : List ℕ) → has_no_end bytes ≡ true
    → without 13 (bytes ++ behind) ≡ bytes ++ without 13 behind
no_return_among [] behind h = refl
no_return_among (byte ∷ rest) behind h =
    let parts = no_end_parts byte rest h in
    without_cons byte (rest ++ behind) parts.1 ∙ ap (λ (r : List ℕ). byte ∷ r)
    (no_return_among rest behind parts.2)

bare_of : (bytes : List ℕ) → has_no_end bytes ≡ true → without 13 bytes ≡ bytes
bare_of bytes h = ap (without 13) (sym (append-nil bytes)) ∙ no_return_among bytes [] h ∙ ap
    (λ (r : List ℕ). bytes ++ r) without_nil ∙ append-nil bytes

bare_of_return : (bytes : List ℕ) → has_no_end bytes ≡ true → without 13 (bytes ++ 13 ∷ []) ≡ bytes
bare_of_return bytes h = no_return_among bytes (13 ∷ []) h ∙ ap (λ (r : List ℕ). bytes ++ r)
    (without_here 13 [] refl ∙ without_nil) ∙ append-nil bytes

no_feed_before : (bytes : List ℕ) → has_no_feed bytes ≡ true → has_no_feed (bytes ++ 13 ∷ []) ≡ true
no_feed_before [] h = refl
no_feed_before (byte ∷ rest) h = let parts = no_feed_parts byte rest h in no_feed_of byte
    (rest ++ 13 ∷ []) parts.0 (no_feed_before rest parts.1)

-- ---- where a line of a plain text ends

-- the byte at a place, between those before it and those behind it
split_at : (text : List ℕ) (at byte : ℕ) → at < length text → get_or text at 0 ≡ byte
    → text ≡ take at text ++ byte ∷ drop (at + 1) text
split_at text at byte within is =
    sym (take-append-drop at text) ∙ ap (λ (r : List ℕ). take at text ++ r)
    (drop_more text at 0 within ∙ ap (λ (x : ℕ). x ∷ drop (at + 1) text) is)

allowed_in : (front : List ℕ) (byte : ℕ) (rest : List ℕ)
    → is_input_text (front ++ byte ∷ rest) ≡ true → is_input_byte byte rest ≡ true
allowed_in [] byte rest h =
    (both_true (is_input_byte byte rest) (is_input_text rest) (sym (input_cons byte rest) ∙ h)).0
allowed_in (x ∷ front) byte rest h = allowed_in front byte rest
    (both_true (is_input_byte x (front ++ byte ∷ rest)) (is_input_text (front ++ byte ∷ rest))
    (sym (input_cons x (front ++ byte ∷ rest)) ∙ h)).1

feed_first : (rest : List ℕ) → begins_with_feed rest ≡ true
    → (0 < length rest) × (get_or rest 0 0 ≡ 10)
feed_first [] h = absurd (false≢true h)
feed_first (byte ∷ rest) h = (omega arith, eqb-true byte 10 h)

-- a line feed behind a carriage return
feed_of_return : (text : List ℕ) (end : ℕ) → is_input_text text ≡ true → end < length text
    → get_or text end 0 ≡ 13 → (end + 1 < length text) × (get_or text (end + 1) 0 ≡ 10)
feed_of_return text end input within is =
    let whole = split_at text end 13 within is in
    let begins : begins_with_feed (drop (end + 1) text) ≡ true = allowed_in (take end text) 13
    (drop (end + 1) text) (ap is_input_text (sym whole) ∙ input) in
    let first = feed_first (drop (end + 1) text) begins in
    let place : (end + 1) + 0 ≡ end + 1 = omega arith in (
      omega (arith, first.0, length-drop (end + 1) text),
      ap (λ (k : ℕ). get_or text k 0)
          (sym place) ∙ sym (get_or-drop (end + 1) text 0 0) ∙ first.1,
    )

module _ (text : List ℕ) (end : ℕ) (input : is_input_text text ≡ true) (line : IsLineEnd text end)
    (within : end < length text) where
  -- the line feed is the end
  pub feed_here : (get_or text end 0 ≡ 13 → ⊥) → get_or text end 0 ≡ 10
  feed_here other = eqb-true (get_or text end 0) 10
      (one_of (get_or text end 0 == 10) (get_or text end 0 == 13) (line.end_there within)
      (false_from_ne_true (get_or text end 0 == 13)
      (λ e. other (eqb-true (get_or text end 0) 13 e))))

  pub first_here : (get_or text end 0 ≡ 13 → ⊥) → IsFirstFeed text end
  first_here other = record {
    within = within;
    none_before = no_feed_among
        (take end text) line.no_end;
    there = split_at text end 10 within (feed_here other);
  }

  pub bare_here : without 13 (take end text) ≡ take end text
  bare_here = bare_of (take end text) line.no_end

  -- it stands behind a carriage return
  line_of : take (end + 1) text ≡ take end text ++ get_or text end 0 ∷ []
  line_of = take_more text end 0 within

  pub first_behind : get_or text end 0 ≡ 13 → IsFirstFeed text (end + 1)
  first_behind is =
      let next = feed_of_return text end input within is in
      record {
        within = next.0;
        none_before = ap has_no_feed (line_of ∙ ap (λ (b : ℕ). take end text ++ b ∷ []) is) ∙
            no_feed_before (take end text) (no_feed_among (take end text) line.no_end);
        there = split_at text (end + 1) 10 next.0 next.1;
      }

  pub bare_behind : get_or text end 0 ≡ 13 → without 13 (take (end + 1) text) ≡ take end text
  bare_behind is = ap (without 13) (line_of ∙ ap (λ (b : ℕ). take end text ++ b ∷ []) is) ∙
      bare_of_return (take end text) line.no_end

-- a line up to its feed is allowed, and so is what stands behind it
pub allowed_to : (text : List ℕ) (at : ℕ) → is_input_text text ≡ true → IsFirstFeed text at
    → (is_input_text (take at text ++ 10 ∷ []) ≡ true) × (is_input_text (drop (at + 1) text) ≡ true)
allowed_to text at input feed =
    input_front (take at text) (drop (at + 1) text) (ap is_input_text (sym feed.there) ∙ input)

-- ---- no line ends

pub no_feed_whole : (text : List ℕ) (end : ℕ) → IsLineEnd text end → end ≡ length text
    → has_no_feed text ≡ true
no_feed_whole text end line is =
    no_feed_among text (ap has_no_end (sym (take_all end text (omega arith))) ∙ line.no_end)

-- ---- the record of the line

-- a record that was read
abbrev read_row : Record → Result Record Fault
read_row row = Ok row

record_if : (line : List ℕ) (row : Record) (bare : ℕ) → bare ≡ length line → row ≡ parts 44 line
    → cond (bare == 0) [] (read_row row ∷ []) ≡ record_of true line
record_if [] row bare is read = ap (λ (n : ℕ). cond (n == 0) [] (read_row row ∷ [])) is
record_if (byte ∷ rest) row bare is read =
    let long : length (byte ∷ rest) ≡ suc (length rest) = refl in
    let some : (bare == 0) ≡ false = false_from_ne_true (bare == 0)
    (λ e. let none : bare ≡ 0 = eqb-true bare 0 e in omega (arith, none, is, long)) in
    ap (λ (b : Bool). cond b [] (read_row row ∷ [])) some ∙ ap
    (λ (r : Record). read_row r ∷ []) read

row_kept : (raw line : List ℕ) (row : Record) (len bare : ℕ) → has_no_feed raw ≡ true
    → len ≡ length raw → bare ≡ length line → is_input_text (raw ++ 10 ∷ []) ≡ true
    → without 13 raw ≡ line → row ≡ parts 44 line
    → len ≤ MOST_LINE → row_records len bare row ≡ ended_record (pending_after (Kept []) raw)
row_kept raw line row len bare none is bare_is allowed same read short =
    let nothing : length {A = ℕ} [] ≡ 0 = refl in
    let kept : pending_after (Kept []) raw
    ≡ Kept raw = stays_kept [] raw none (omega (arith, nothing)) in
    ap (λ (b : Bool). cond b (cond (bare == 0) [] (read_row row ∷ [])) (Err BadRecord ∷ []))
    (le-leb len MOST_LINE short)
    ∙ record_if line row bare bare_is read
    ∙ sym (ap ended_record kept ∙ ap (λ (b : Bool). record_of b (without 13 raw)) allowed ∙ ap
    (record_of true) same)

row_dropped : (raw : List ℕ) (row : Record) (len bare : ℕ) → has_no_feed raw ≡ true → len ≡ length
    raw → MOST_LINE < len → row_records len bare row ≡ ended_record (pending_after (Kept []) raw)
row_dropped raw row len bare none is long =
    let nothing : length {A = ℕ} [] ≡ 0 = refl in
    ap (λ (b : Bool). cond b (cond (bare == 0) [] (read_row row ∷ [])) (Err BadRecord ∷ []))
    (lt-leb len MOST_LINE long)
    ∙ sym (ap ended_record
    (gets_dropped [] raw none (omega (arith, nothing)) (omega (arith, nothing))))

pub row_is : (text : List ℕ) (row : Record) (at end : ℕ) → IsFirstFeed text at → end ≤ length text
    → is_input_text (take at text ++ 10 ∷ []) ≡ true → without 13 (take at text) ≡ take end text
    → row ≡ parts 44 (take end text)
    → row_records at end row ≡ ended_record (pending_after (Kept []) (take at text))
row_is text row at end feed within allowed same read =
    let long : at
    ≡ length (take at text) = sym (length-take-le at text (omega (arith, feed.within))) in
    let bare : end ≡ length (take end text) = sym (length-take-le end text within) in
    elim (cases_lt MOST_LINE at) [
      | inl more ↦ row_dropped (take at text) row at end feed.none_before long more
      | inr few ↦ row_kept (take at text)
          (take end text) row at end feed.none_before long bare allowed same read few
    ]
