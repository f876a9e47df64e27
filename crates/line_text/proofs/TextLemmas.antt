-- The lines of a text are its records, where each of its bytes is allowed and no line is too long.
use Rattle.std.proofs.Common.{◌≡◌, ◌≤◌, ℕ, ◌+◌, Bool, true, false, List, [], ◌∷◌, ◌++◌}
use Rattle.std.proofs.Common.{append_assoc, length, refl, sym, ap, ◌∙◌, subst, inl, inr, arith}
use Rattle.std.proofs.Common.{le-leb, length-append}
use Rattle.std.specs.Prelude.{◌==◌, Ok, Result, map}
use Rattle.std.specs.List.{AllByRecursion, flat_map}
use Rattle.std.proofs.lemmas.Bool.{cases_Bool, eqb-true}
use Rattle.std.proofs.lemmas.List.{append-nil}
use Rattle.line_fields.specs.declared.faults.Fault.{Fault}
use Rattle.line_fields.specs.Bytes.{begins_with_feed, is_input_byte, is_input_text}
use Rattle.line_fields.specs.Records.{Record, cut, records_of_lines, records_of_text, without}
use Rattle.line_text.specs.declared.limits.TheConstants.{MOST_LINE}
use Rattle.line_text.specs.Lines.{Pending, Kept, ended_record, last_record, longer}
use Rattle.line_text.specs.Lines.{pending_after, record_of}
use Rattle.line_text.specs.Lines.{HasShortLines}
use Rattle.line_text.specs.Conversations.{records_ending_in, records_of}
use Rattle.line_text.proofs.AllowedLemmas.{feed_alone, input_cons}
use Rattle.line_text.proofs.LineLemmas.{both_true, lines_feed, lines_nil, no_end_if}
use Rattle.line_text.proofs.LineLemmas.{no_lines_if, pending_feed, pending_nil}

-- ---- an input text, up to a line feed and behind it

same_begin : (bytes rest : List ℕ)
    → begins_with_feed (bytes ++ 10 ∷ rest) ≡ begins_with_feed (bytes ++ 10 ∷ [])
same_begin [] rest = refl
same_begin (byte ∷ bytes) rest = refl

pub input_front : (bytes rest : List ℕ) → is_input_text (bytes ++ 10 ∷ rest) ≡ true
    → (is_input_text (bytes ++ 10 ∷ []) ≡ true) × (is_input_text rest ≡ true)
input_front [] rest h = (
  feed_alone,
  (both_true (is_input_byte 10 rest) (is_input_text rest) (sym (input_cons 10 rest) ∙ h)).1,
)
input_front (byte ∷ bytes) rest h =
    let both = both_true (is_input_byte byte (bytes ++ 10 ∷ rest))
    (is_input_text (bytes ++ 10 ∷ rest)) (sym (input_cons byte (bytes ++ 10 ∷ rest)) ∙ h) in
    let others = input_front bytes rest both.1 in
    let here : is_input_byte byte (bytes ++ 10 ∷ [])
    ≡ true = rw (same_begin bytes rest) at both.0 in
    (input_cons byte (bytes ++ 10 ∷ []) ∙ rw (here, others.0) refl, others.1)

-- ---- the lines of a text without carriage returns

cut_feed : (rest : List ℕ) → cut 10 (10 ∷ rest) ≡ ([], (cut 10 rest).0 ∷ (cut 10 rest).1)
unfolding cut
cut_feed rest = refl

cut_other : (byte : ℕ) (rest : List ℕ) → (byte == 10) ≡ false
    → cut 10 (byte ∷ rest) ≡ (byte ∷ (cut 10 rest).0, (cut 10 rest).1)
unfolding cut
cut_other byte rest other = rw other refl

cut_nil : cut 10 [] ≡ ([], [])
unfolding cut
cut_nil = refl

pub without_nil : without 13 [] ≡ []
unfolding without
without_nil = refl

pub without_cons : (byte : ℕ) (rest : List ℕ) → (byte == 13) ≡ false
    → without 13 (byte ∷ rest) ≡ byte ∷ without 13 rest
unfolding without
without_cons byte rest other = rw other refl

pub without_here : (byte : ℕ) (rest : List ℕ) → (byte == 13) ≡ true
    → without 13 (byte ∷ rest) ≡ without 13 rest
unfolding without
without_here byte rest is = rw is refl

-- the lines of a text, each without carriage returns
abbrev bare_lines : List ℕ × List (List ℕ) → List ℕ × List (List ℕ)
bare_lines lines = (without 13 lines.0, map (without 13) lines.1)

cut_without : (text : List ℕ) → cut 10 (without 13 text) ≡ bare_lines (cut 10 text)
cut_without [] = ap (cut 10) without_nil ∙ cut_nil ∙ sym
    (ap bare_lines cut_nil ∙ ap (λ (t : List ℕ). (t, [])) without_nil)
cut_without (byte ∷ rest) =
    elim (cases_Bool (byte == 10)) [
      | inl feed ↦
          let is : byte ≡ 10 = eqb-true byte 10 feed in
          subst (λ (b : ℕ). cut 10 (without 13 (b ∷ rest)) ≡ bare_lines (cut 10 (b ∷ rest)))
          (sym is)
          (ap (cut 10) (without_cons 10 rest refl) ∙ cut_feed (without 13 rest) ∙ ap
          (λ (c : List ℕ × List (List ℕ)). ([], c.0 ∷ c.1)) (cut_without rest)
          ∙ sym (ap bare_lines (cut_feed rest) ∙ ap (λ (t : List ℕ).
          (t, map (without 13) ((cut 10 rest).0 ∷ (cut 10 rest).1))) without_nil))
      | inr other ↦ elim (cases_Bool (byte == 13)) [
        | inl return ↦
            ap (cut 10) (without_here byte rest return) ∙ cut_without rest
            ∙ sym (ap bare_lines (cut_other byte rest other) ∙ ap (λ (t : List ℕ).
            (t, map (without 13) (cut 10 rest).1)) (without_here byte (cut 10 rest).0 return))
        | inr plain ↦
            ap (cut 10) (without_cons byte rest plain) ∙ cut_other byte (without 13 rest) other ∙ ap
            (λ (c : List ℕ × List (List ℕ)). (byte ∷ c.0, c.1)) (cut_without rest)
            ∙ sym (ap bare_lines (cut_other byte rest other) ∙ ap (λ (t : List ℕ).
            (t, map (without 13) (cut 10 rest).1)) (without_cons byte (cut 10 rest).0 plain))
      ]
    ]

-- ---- the records of lines

-- records as they are heard
abbrev heard_lines : List (List ℕ) → List (Result Record Fault)
heard_lines lines = map Ok (records_of_lines lines)

line_and_more : (line : List ℕ) (lines : List (List ℕ))
    → record_of true line ++ heard_lines lines ≡ heard_lines (line ∷ lines)
line_and_more [] lines = refl
line_and_more (byte ∷ rest) lines = refl

line_alone : (line : List ℕ) → record_of true line ≡ heard_lines (line ∷ [])
line_alone [] = refl
line_alone (byte ∷ rest) = refl

-- what is heard behind the bytes of a line
abbrev heard_from : List ℕ → List ℕ → List (Result Record Fault)
heard_from own text =
    records_ending_in (Kept own) text ++ last_record (pending_after (Kept own) text)

-- the lines that these bytes of a line and a text behind them make
abbrev lines_from : List ℕ → List ℕ → List (List ℕ)
lines_from own text = (own ++ (cut 10 text).0) ∷ (cut 10 text).1

abbrev AreShort : List (List ℕ) → Type 0
AreShort lines = AllByRecursion (λ line. length line ≤ MOST_LINE) lines

heard_end : (own : List ℕ) → is_input_text (own ++ []) ≡ true
    → heard_from own [] ≡ heard_lines (map (without 13) (lines_from own []))
heard_end own allowed =
    let plain : is_input_text own ≡ true = ap is_input_text (sym (append-nil own)) ∙ allowed in
    let last : last_record (Kept own) ≡ heard_lines (without 13 own ∷ []) = ap
    (λ (b : Bool). record_of b (without 13 own)) plain ∙ line_alone (without 13 own) in
    let lines : lines_from own [] ≡ own ∷ [] = ap (λ (c : List ℕ × List (List ℕ)). (own ++ c.0)
    ∷ c.1) cut_nil ∙ ap (λ (l : List ℕ). l ∷ []) (append-nil own) in
    ap (λ (ls : List Pending). flat_map ended_record ls ++ last_record (pending_after
    (Kept own) [])) (lines_nil (Kept own)) ∙ ap last_record (pending_nil (Kept own)) ∙ last
    ∙ sym (ap (λ (ls : List (List ℕ)). heard_lines (map (without 13) ls)) lines)

heard_feed : (own rest : List ℕ) → is_input_text (own ++ 10 ∷ []) ≡ true
    → heard_from [] rest ≡ heard_lines (map (without 13) (lines_from [] rest))
    → heard_from own (10 ∷ rest) ≡ heard_lines (map (without 13) (lines_from own (10 ∷ rest)))
heard_feed own rest allowed others =
    let more : List (Result Record Fault) = heard_from [] rest in
    let line : ended_record (Kept own) ≡ record_of true (without 13 own) = ap
    (λ (b : Bool). record_of b (without 13 own)) allowed in
    let lines : lines_from own (10 ∷ rest)
    ≡ own ∷ lines_from [] rest = ap (λ (c : List ℕ × List (List ℕ)). (own ++ c.0) ∷ c.1)
    (cut_feed rest) ∙ ap (λ (l : List ℕ). l ∷ ((cut 10 rest).0 ∷ (cut 10 rest).1))
    (append-nil own) in
    ap (λ (ls : List Pending). flat_map ended_record ls
    ++ last_record (pending_after (Kept own) (10 ∷ rest))) (lines_feed (Kept own) rest)
    ∙ ap (λ (p : Pending). (ended_record (Kept own) ++ records_ending_in (Kept []) rest)
    ++ last_record p) (pending_feed (Kept own) rest)
    ∙ append_assoc (ended_record (Kept own)) (records_ending_in (Kept []) rest)
    (last_record (pending_after (Kept []) rest))
    ∙ ap (λ (rs : List (Result Record Fault)). rs ++ more) line
    ∙ ap (λ (rs : List (Result Record Fault)). record_of true (without 13 own) ++ rs) others
    ∙ line_and_more (without 13 own) (map (without 13) (lines_from [] rest))
    ∙ sym (ap (λ (ls : List (List ℕ)). heard_lines (map (without 13) ls)) lines)

longer_by : (own : List ℕ) (byte : ℕ) → length own + 1 ≤ MOST_LINE
    → longer (Kept own) (byte ∷ []) ≡ Kept (own ++ byte ∷ [])
longer_by own byte short = rw (le-leb (length own + 1) MOST_LINE short) refl

heard_other : (own : List ℕ) (byte : ℕ) (rest : List ℕ) → (byte == 10) ≡ false
    → length own + 1 ≤ MOST_LINE → heard_from (own ++ byte ∷ []) rest
    ≡ heard_lines (map (without 13) (lines_from (own ++ byte ∷ []) rest))
    → heard_from own (byte ∷ rest) ≡ heard_lines (map (without 13) (lines_from own (byte ∷ rest)))
heard_other own byte rest other short others =
    let grown = longer_by own byte short in
    let lines : lines_from own (byte ∷ rest) ≡ lines_from (own ++ byte ∷ []) rest =
    ap (λ (c : List ℕ × List (List ℕ)). (own ++ c.0) ∷ c.1) (cut_other byte rest other) ∙ ap (λ
    (l : List ℕ). l ∷ (cut 10 rest).1) (sym (append_assoc own (byte ∷ []) (cut 10 rest).0)) in
    ap (λ (ls : List Pending). flat_map ended_record ls ++ last_record
    (pending_after (Kept own) (byte ∷ rest))) (no_lines_if (Kept own) byte rest other)
    ∙ ap (λ (p : Pending). records_ending_in (longer (Kept own) (byte ∷ [])) rest ++ last_record p)
    (no_end_if (Kept own) byte rest other)
    ∙ ap (λ (p : Pending). records_ending_in p rest ++ last_record (pending_after p rest)) grown
    ∙ others ∙ sym (ap (λ (ls : List (List ℕ)). heard_lines (map (without 13) ls)) lines)

heard_text : (own text : List ℕ) → is_input_text (own ++ text) ≡ true → AreShort (lines_from own
    text) → heard_from own text ≡ heard_lines (map (without 13) (lines_from own text))
heard_text own [] allowed short = heard_end own allowed
heard_text own (byte ∷ rest) allowed short =
    elim (cases_Bool (byte == 10)) [
      | inl feed ↦
          let is : byte ≡ 10 = eqb-true byte 10 feed in
          let parts = input_front own rest
          (subst (λ (b : ℕ). is_input_text (own ++ b ∷ rest) ≡ true) is allowed) in
          let lines : AreShort (lines_from own (10 ∷ rest)) = subst
          (λ (b : ℕ). AreShort (lines_from own (b ∷ rest))) is short in
          let others : AreShort (lines_from [] rest) = (subst (λ (c : List ℕ × List (List ℕ)).
          AreShort ((own ++ c.0) ∷ c.1)) (cut_feed rest) lines).1 in
          subst (λ (b : ℕ). heard_from own (b ∷ rest)
          ≡ heard_lines (map (without 13) (lines_from own (b ∷ rest)))) (sym is)
          (heard_feed own rest parts.0 (heard_text [] rest parts.1 others))
      | inr other ↦
          let lines : AreShort ((own ++ (byte ∷ (cut 10 rest).0)) ∷ (cut 10 rest).1) = subst
          (λ (c : List ℕ × List (List ℕ)). AreShort ((own ++ c.0) ∷ c.1))
          (cut_other byte rest other) short in
          let long : length (byte ∷ (cut 10 rest).0) ≡ 1 + length (cut 10 rest).0 = omega arith in
          let room : length own + 1 ≤ MOST_LINE = omega
          (arith, lines.0, length-append own (byte ∷ (cut 10 rest).0), long) in
          heard_other own byte rest other room
          (heard_text (own ++ byte ∷ []) rest
          (ap is_input_text (append_assoc own (byte ∷ []) rest) ∙ allowed)
          (subst (λ (l : List ℕ). AreShort (l ∷ (cut 10 rest).1))
          (sym (append_assoc own (byte ∷ []) (cut 10 rest).0)) lines))
    ]

-- the records that are heard of a text are its records
pub heard_whole : (text : List ℕ) → is_input_text text ≡ true → HasShortLines text
    → records_of text ≡ map Ok (records_of_text text)
heard_whole text allowed short = heard_text [] text allowed short ∙ sym
    (ap (λ (c : List ℕ × List (List ℕ)). heard_lines (c.0 ∷ c.1)) (cut_without text))
