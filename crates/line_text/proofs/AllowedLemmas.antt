-- A line is allowed where its bytes are, but for a carriage return before its line feed.
use Rattle.std.proofs.Common.{◌≡◌, ℕ, zero, suc, ◌+◌, ◌&&◌, ◌||◌, Bool, true, false, List, [], ◌∷◌}
use Rattle.std.proofs.Common.{◌++◌, refl, sym, ap, ◌∙◌, subst, inl, inr, append_assoc, arith, drop}
use Rattle.std.proofs.Common.{get_or, length, take}
use Rattle.std.proofs.lemmas.Bool.{cases_Bool, eqb-true, false_from_ne_true, false≢true}
use Rattle.std.proofs.lemmas.List.{append-nil, drop_all, drop_more, take-append-drop}
use Rattle.std.specs.Prelude.{◌==◌, not}
use Rattle.line_fields.specs.Bytes.{begins_with_feed, is_input_byte, is_input_text, is_line_byte}
use Rattle.line_fields.specs.Bytes.{is_line_text}
use Rattle.line_fields.specs.Records.{without}
use Rattle.line_text.specs.Lines.{Kept, Pending, has_no_feed, last_record, record_of}
use Rattle.line_text.proofs.LineLemmas.{both_true, no_feed_of, no_feed_parts}

-- a byte that is no line feed, and before none
allowed_if : (line feed return begun : Bool) → feed ≡ false → begun ≡ false
    → ((line || feed) || (return && begun)) ≡ line
allowed_if true feed return begun none other = refl
allowed_if false feed true begun none other = rw (none, other) refl
allowed_if false feed false begun none other = rw none refl

allowed_here : (byte : ℕ) (rest : List ℕ) → (byte == 10) ≡ false → begins_with_feed rest ≡ false
    → is_input_byte byte rest ≡ is_line_byte byte
allowed_here byte rest none other =
    allowed_if (is_line_byte byte) (byte == 10) (byte == 13) (begins_with_feed rest) none other

-- such bytes begin with no line feed
no_begin : (bytes : List ℕ) → has_no_feed bytes ≡ true → begins_with_feed bytes ≡ false
no_begin [] none = refl
no_begin (byte ∷ rest) none = (no_feed_parts byte rest none).0

no_begin_before : (bytes behind : List ℕ) → has_no_feed bytes ≡ true
    → begins_with_feed behind ≡ false → begins_with_feed (bytes ++ behind) ≡ false
no_begin_before [] behind none other = other
no_begin_before (byte ∷ rest) behind none other = (no_feed_parts byte rest none).0

input_nil : is_input_text [] ≡ true
unfolding is_input_text
input_nil = refl

pub input_cons : (byte : ℕ) (rest : List ℕ)
    → is_input_text (byte ∷ rest) ≡ (is_input_byte byte rest && is_input_text rest)
unfolding is_input_text
input_cons byte rest = refl

-- bytes before others that are allowed
allowed_before : (bytes behind : List ℕ) → has_no_feed bytes ≡ true → begins_with_feed behind
    ≡ false → is_input_text behind ≡ true → is_input_text (bytes ++ behind) ≡ is_line_text bytes
allowed_before [] behind none other rest = rest
allowed_before (byte ∷ bytes) behind none other rest =
    let parts = no_feed_parts byte bytes none in
    input_cons byte (bytes ++ behind)
    ∙ ap (λ (b : Bool). b && is_input_text (bytes ++ behind))
    (allowed_here byte (bytes ++ behind) parts.0 (no_begin_before bytes behind parts.1 other))
    ∙ ap (λ (b : Bool). is_line_byte byte && b) (allowed_before bytes behind parts.1 other rest)

-- a line at the end of the input
pub allowed_last : (bytes : List ℕ) → has_no_feed bytes ≡ true
    → is_input_text bytes ≡ is_line_text bytes
allowed_last [] none = input_nil
allowed_last (byte ∷ bytes) none =
    let parts = no_feed_parts byte bytes none in
    input_cons byte bytes
    ∙ ap (λ (b : Bool). b && is_input_text bytes)
    (allowed_here byte bytes parts.0 (no_begin bytes parts.1))
    ∙ ap (λ (b : Bool). is_line_byte byte && b) (allowed_last bytes parts.1)

returns_feed : is_input_text (13 ∷ 10 ∷ []) ≡ true
unfolding is_input_text
returns_feed = refl

pub feed_alone : is_input_text (10 ∷ []) ≡ true
unfolding is_input_text
feed_alone = refl

-- a line before a carriage return and a line feed
pub allowed_return : (bytes : List ℕ) → has_no_feed bytes ≡ true
    → is_input_text ((bytes ++ 13 ∷ []) ++ 10 ∷ []) ≡ is_line_text bytes
allowed_return bytes none = ap is_input_text (append_assoc bytes (13 ∷ []) (10 ∷ [])) ∙
    allowed_before bytes (13 ∷ 10 ∷ []) none refl returns_feed

-- the last byte of a list, if it has one, is no carriage return
abbrev pub ends_otherwise : List ℕ → Bool
ends_otherwise [] = true
ends_otherwise (byte ∷ []) = not (byte == 13)
ends_otherwise (byte ∷ next ∷ rest) = ends_otherwise (next ∷ rest)

allowed_end : (line feed return : Bool) → feed ≡ false → return ≡ false
    → ((line || feed) || (return && true)) ≡ line
allowed_end true feed return none other = refl
allowed_end false feed return none other = rw (none, other) refl

-- a line before a line feed, where it has no carriage return there
allowed_last_byte : (byte : ℕ) → (byte == 10) ≡ false → (byte == 13) ≡ false
    → is_input_byte byte (10 ∷ []) ≡ is_line_byte byte
allowed_last_byte byte none other =
    allowed_end (is_line_byte byte) (byte == 10) (byte == 13) none other

is_otherwise : (byte : ℕ) → not (byte == 13) ≡ true → (byte == 13) ≡ false
is_otherwise byte h =
    elim (byte == 13) as (λ b. not b ≡ true → b ≡ false) [ true ↦ λ e. sym e | false ↦ λ e. refl ] h

pub allowed_feed : (bytes : List ℕ) → has_no_feed bytes ≡ true → ends_otherwise bytes ≡ true
    → is_input_text (bytes ++ 10 ∷ []) ≡ is_line_text bytes
allowed_feed [] none other = feed_alone
allowed_feed (byte ∷ []) none other =
    input_cons byte (10 ∷ [])
    ∙ ap (λ (b : Bool). b && is_input_text (10 ∷ []))
    (allowed_last_byte byte (no_feed_parts byte [] none).0 (is_otherwise byte other))
    ∙ ap (λ (b : Bool). is_line_byte byte && b) feed_alone
allowed_feed (byte ∷ next ∷ rest) none other =
    let parts = no_feed_parts byte (next ∷ rest) none in
    input_cons byte (next ∷ (rest ++ 10 ∷ []))
    ∙ ap (λ (b : Bool). b && is_input_text (next ∷ (rest ++ 10 ∷ [])))
    (allowed_here byte (next ∷ (rest ++ 10 ∷ [])) parts.0 (no_feed_parts next rest parts.1).0)
    ∙ ap (λ (b : Bool). is_line_byte byte && b) (allowed_feed (next ∷ rest) parts.1 other)

-- ---- carriage returns don't count

line_parts : (byte : ℕ) (rest : List ℕ) → is_line_text (byte ∷ rest) ≡ true
    → (is_line_byte byte ≡ true) × (is_line_text rest ≡ true)
line_parts byte rest h = both_true (is_line_byte byte) (is_line_text rest) h

no_return : (byte : ℕ) → is_line_byte byte ≡ true → (byte == 13) ≡ false
no_return byte h =
    elim (cases_Bool (byte == 13)) [
      | inl e ↦ let is : byte ≡ 13 =
          eqb-true byte 13 e in absurd (false≢true (subst (λ (x : ℕ). is_line_byte x ≡ true) is h))
      | inr e ↦ e
    ]

without_cons : (byte : ℕ) (rest : List ℕ) → (byte == 13) ≡ false
    → without 13 (byte ∷ rest) ≡ byte ∷ without 13 rest
unfolding without
without_cons byte rest other = rw other refl

without_nil : without 13 [] ≡ []
unfolding without
without_nil = refl

without_return : without 13 (13 ∷ []) ≡ []
unfolding without
without_return = refl

pub without_before : (bytes behind : List ℕ) → is_line_text bytes ≡ true
    → without 13 (bytes ++ behind) ≡ bytes ++ without 13 behind
without_before [] behind h = refl
without_before (byte ∷ bytes) behind h =
    let parts = line_parts byte bytes h in
    without_cons byte (bytes ++ behind) (no_return byte parts.0) ∙ ap (λ (r : List ℕ). byte ∷ r)
    (without_before bytes behind parts.1)

pub without_all : (bytes : List ℕ) → is_line_text bytes ≡ true → without 13 bytes ≡ bytes
without_all bytes h = sym (ap (without 13) (append-nil bytes)) ∙ without_before bytes [] h ∙ ap
    (λ (r : List ℕ). bytes ++ r) without_nil ∙ append-nil bytes

pub without_last : (bytes : List ℕ) → is_line_text bytes ≡ true
    → without 13 (bytes ++ 13 ∷ []) ≡ bytes
without_last bytes h = without_before bytes (13 ∷ []) h ∙ ap
    (λ (r : List ℕ). bytes ++ r) without_return ∙ append-nil bytes

-- ---- the record of a line

same_record : (allowed plain : Bool) (bytes line : List ℕ) → allowed ≡ plain
    → (plain ≡ true → bytes ≡ line) → record_of allowed bytes ≡ record_of plain line
same_record allowed true bytes line is same = rw (is, same refl) refl
same_record allowed false bytes line is same = rw is refl

pub last_is : (bytes : List ℕ) → has_no_feed bytes ≡ true
    → record_of (is_line_text bytes) bytes ≡ last_record (Kept bytes)
last_is bytes none = sym (same_record (is_input_text bytes) (is_line_text bytes)
    (without 13 bytes) bytes (allowed_last bytes none) (without_all bytes))

-- of a line that is pending
pub last_of : (pending : Pending) (line : List ℕ) → pending ≡ Kept line → has_no_feed line ≡ true
    → record_of (is_line_text line) line ≡ last_record pending
last_of pending line is none = last_is line none ∙ ap last_record (sym is)

-- ---- the line before a line feed, with or without a carriage return there

no_feed_front : (bytes behind : List ℕ) → has_no_feed (bytes ++ behind) ≡ true
    → has_no_feed bytes ≡ true
no_feed_front [] behind h = refl
no_feed_front (byte ∷ bytes) behind h = let parts = no_feed_parts byte
    (bytes ++ behind) h in no_feed_of byte bytes parts.0 (no_feed_front bytes behind parts.1)

is_no_return : (byte : ℕ) → (byte ≡ 13 → ⊥) → not (byte == 13) ≡ true
is_no_return byte other =
    rw (false_from_ne_true (byte == 13) (λ e. other (eqb-true byte 13 e))) refl

otherwise_at : (line : List ℕ) (last : ℕ) → last + 1 ≡ length line → (get_or line last 0 ≡ 13 → ⊥)
    → ends_otherwise line ≡ true
otherwise_at [] last is other = refl
otherwise_at (byte ∷ []) zero is other = is_no_return byte other
otherwise_at (byte ∷ []) (suc last) is other =
    let one : length (byte ∷ []) ≡ 1 = refl in absurd (omega (arith, is, one))
otherwise_at (byte ∷ next ∷ rest) zero is other = let more : length (byte ∷ next ∷ rest)
    ≡ suc (suc (length rest)) = refl in absurd (omega (arith, is, more))
otherwise_at (byte ∷ next ∷ rest) (suc last) is other =
    let more : length (byte ∷ next ∷ rest) ≡ suc (length (next ∷ rest)) = refl in
    otherwise_at (next ∷ rest) last (omega (arith, is, more)) other

pub line_empty : (line : List ℕ) → length line ≡ 0 → (is_input_text (line ++ 10 ∷ [])
    ≡ is_line_text line) × (is_line_text line ≡ true → without 13 line ≡ line)
line_empty [] is = (feed_alone, λ h. without_nil)
line_empty (byte ∷ rest) is =
    let more : length (byte ∷ rest) ≡ suc (length rest) = refl in absurd (omega (arith, is, more))

pub line_alone : (line : List ℕ) (last : ℕ) → has_no_feed line ≡ true → last + 1 ≡ length line
    → (get_or line last 0 ≡ 13 → ⊥)
    → (is_input_text (line ++ 10 ∷ []) ≡ is_line_text line)
    × (is_line_text line ≡ true → without 13 line ≡ line)
line_alone line last none is other =
    (allowed_feed line none (otherwise_at line last is other), without_all line)

pub line_returned : (line : List ℕ) (last : ℕ) → has_no_feed line ≡ true → last + 1 ≡ length line
    → get_or line last 0 ≡ 13
    → (is_input_text (line ++ 10 ∷ []) ≡ is_line_text (take last line))
    × (is_line_text (take last line) ≡ true → without 13 line ≡ take last line)
line_returned line last none is return =
    let behind : drop last line
    ≡ 13 ∷ [] = drop_more line last 0 (omega (arith, is)) ∙ ap (λ (x : ℕ). x ∷ drop (last + 1)
    line) return ∙ ap (λ (r : List ℕ). 13 ∷ r) (drop_all (last + 1) line (omega (arith, is))) in
    let parts : line ≡ take last line ++ 13 ∷ [] = sym (take-append-drop last line) ∙ ap
    (λ (r : List ℕ). take last line ++ r) behind in (
      ap (λ (l : List ℕ). is_input_text (l ++ 10 ∷ [])) parts ∙ allowed_return (take last line)
          (no_feed_front (take last line) (13 ∷ []) (ap has_no_feed (sym parts) ∙ none)),
      λ plain. ap (without 13) parts ∙ without_last (take last line) plain,
    )
