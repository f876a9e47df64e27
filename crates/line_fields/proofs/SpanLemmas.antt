-- The fields of a line, each where it stands in it, and the lines of an input text.
use Rattle.std.proofs.Common.{◌≡◌, ◌≤◌, ◌<◌, ◌==◌, ◌||◌, ◌∙◌, ◌++◌, ◌∷◌, ◌+◌, ◌-◌, ℕ, List, []}
use Rattle.std.proofs.Common.{Bool, true, false, not, All, length, drop, take, map, get_or, refl}
use Rattle.std.proofs.Common.{ap, sym, subst, inl, inr, arith, zero, suc, append_assoc}
use Rattle.std.proofs.Math.Seq.{take-suc, take-append-add}
use Rattle.std.proofs.Math.Nat.{eq-or-lt_of_le}
use Rattle.std.proofs.lemmas.Bool.{and_parts, cases_Bool, eqb-true}
use Rattle.std.proofs.lemmas.List.{append-nil, take-append-drop, length-append, length-drop}
use Rattle.std.proofs.lemmas.List.{length-take-le, take_all, drop_all, take-append-le}
use Rattle.std.proofs.lemmas.List.{drop-append-le, drop_more, get_or-drop, map-append}
use Rattle.std.proofs.lemmas.List.Elements.{All-nil, All-push, All-head, All-tail}
use Rattle.std.proofs.lemmas.List.Folds.{list_all-append}
use Rattle.line_fields.specs.Bytes.{begins_with_feed, is_input_byte, is_input_text}
use Rattle.line_fields.specs.Records.{Record, cut, has_byte, parts, records_of_lines}
use Rattle.line_fields.specs.Records.{records_of_text, without}
use Rattle.line_fields.specs.Rows.{IsLineEnd, IsFieldWithin, FieldSpan, begins_with_end, has_no_end}
use Rattle.line_fields.specs.Rows.{is_end, is_mark, part_of}
use Rattle.line_fields.proofs.ReadAgain.{is_clear, parts-clear, parts-mark, without-clear}
use Rattle.line_fields.proofs.TextLemmas.{rest_is}

-- a span, made of where it begins and ends
abbrev pub span_of : ℕ → ℕ → FieldSpan
span_of start end = record { start = start; end = end }

-- bytes that are added behind leave what spans name as it is
all_stay : (bytes more : List ℕ) (spans : List FieldSpan) → All (IsFieldWithin bytes) spans
    → All (IsFieldWithin (bytes ++ more)) spans
all_stay bytes more spans all = λ k d lt.
    let w = all k d lt in
    let long = length-append bytes more in
    record { ordered = w.ordered; within = omega (arith, long, w.within) }

part_stays : (bytes more : List ℕ) (span : FieldSpan) → IsFieldWithin bytes span
    → part_of (bytes ++ more) span ≡ part_of bytes span
part_stays bytes more span w =
    let long = length-drop span.start bytes in
    ap (λ (xs : List ℕ). take (span.end - span.start) xs)
    (drop-append-le span.start bytes more (omega (arith, w.ordered, w.within)))
    ∙ take-append-le (span.end - span.start) (drop span.start bytes) more
    (omega (arith, long, w.ordered, w.within))

parts_stay : (bytes more : List ℕ) (spans : List FieldSpan) → All (IsFieldWithin bytes) spans
    → map (part_of (bytes ++ more)) spans ≡ map (part_of bytes) spans
parts_stay bytes more [] all = refl
parts_stay bytes more (span ∷ others) all =
    let one = part_stays bytes more span (All-head (IsFieldWithin bytes) span others all) in
    let rest = parts_stay bytes more others (All-tail (IsFieldWithin bytes) span others all) in
    ap (λ (x : List ℕ). x ∷ map (part_of (bytes ++ more)) others) one ∙ ap
    (λ (xs : Record). part_of bytes span ∷ xs) rest

-- a text is cut into fields as far as a place, where a field is at hand that began before it
pub record IsCut (text : List ℕ) (spans : List FieldSpan) (start end : ℕ) : Type 0 where
  pub ordered : start ≤ end
  pub inside : end ≤ length text
  pub within : All (IsFieldWithin (take end text)) spans
  pub clear : is_clear 44 (take (end - start) (drop start text)) ≡ true
  pub no_end : has_no_end (take end text) ≡ true
  pub cut : (rest : List ℕ)
      → parts 44 (take start text ++ rest) ≡ map (part_of text) spans ++ parts 44 rest

pub cut_begins : (text : List ℕ) → IsCut text [] 0 0
cut_begins text = record {
  ordered = omega arith;
  inside = omega arith;
  within = All-nil
      (IsFieldWithin []);
  clear = refl;
  no_end = refl;
  cut = λ rest. refl;
}

plus_one : (n : ℕ) → n + 1 ≡ suc n
plus_one n = omega arith

-- a list as far as a place, and one place further
further : (xs : List ℕ) (end : ℕ) → end < length xs
    → take (end + 1) xs ≡ take end xs ++ get_or xs end 0 ∷ []
further xs end lt = ap (λ (n : ℕ). take n xs) (plus_one end) ∙ take-suc xs end 0 lt

one_further : (xs : List ℕ) (start end : ℕ) → start ≤ end → end < length xs
    → take ((end + 1) - start) (drop start xs)
    ≡ take (end - start) (drop start xs) ++ get_or xs end 0 ∷ []
one_further xs start end le lt =
    let long = length-drop start xs in
    let k : ℕ = end - start in
    let next : (end + 1) - start ≡ suc k = omega arith in
    let place : start + k ≡ end = omega arith in
    let at : get_or (drop start xs) k 0
    ≡ get_or xs end 0 = get_or-drop start xs k 0 ∙ ap (λ (i : ℕ). get_or xs i 0) place in
    ap (λ (n : ℕ). take n (drop start xs)) next ∙ take-suc (drop start xs) k 0
    (omega (arith, long)) ∙ ap (λ (b : ℕ). take k (drop start xs) ++ b ∷ []) at

-- a list as far as one place is that as far as another, and what lies between
between : (xs : List ℕ) (start end : ℕ) → start ≤ end → end ≤ length xs
    → take end xs ≡ take start xs ++ take (end - start) (drop start xs)
between xs start end le within =
    let front : List ℕ = take start xs in
    let long : length front ≡ start = length-take-le start xs (omega (arith, le, within)) in
    let whole : end ≡ length front + (end - start) = omega (arith, long, le) in
    ap (λ (n : ℕ). take n xs) whole ∙ ap (λ (ys : List ℕ). take (length front + (end - start)) ys)
    (sym (take-append-drop start xs))
    ∙ take-append-add front (drop start xs) (end - start)

no_end_more : (xs : List ℕ) (b : ℕ) → has_no_end xs ≡ true → is_end b ≡ false
    → has_no_end (xs ++ b ∷ []) ≡ true
no_end_more xs b before here =
    rw (list_all-append (λ byte. not (is_end byte)) xs (b ∷ []), before, here) refl

clear_more : (mark : ℕ) (xs : List ℕ) (b : ℕ) → is_clear mark xs ≡ true → (b == mark) ≡ false
    → is_clear mark (xs ++ b ∷ []) ≡ true
clear_more mark xs b clear other =
    rw (list_all-append (λ c. not (c == mark)) xs (b ∷ []), clear, other) refl

within_more : (text : List ℕ) (spans : List FieldSpan) (end : ℕ) → end < length text
    → All (IsFieldWithin (take end text)) spans → All (IsFieldWithin (take (end + 1) text)) spans
within_more text spans end lt all = subst (λ (xs : List ℕ). All (IsFieldWithin xs) spans)
    (sym (further text end lt)) (all_stay (take end text) (get_or text end 0 ∷ []) spans all)

no_further : (n : ℕ) → n ≡ n + 0
no_further n = omega arith

one_more : (n k : ℕ) → (n + k) + 1 ≡ n + suc k
one_more n k = omega arith

pub cut_goes_on : (text : List ℕ) (spans : List FieldSpan) (start end : ℕ) → IsCut text spans start
    end → end < length text → (get_or text end 0 == 44) ≡ false → is_end (get_or text end 0) ≡ false
    → IsCut text spans start (end + 1)
cut_goes_on text spans start end so lt other no_end = record {
  ordered = omega (arith, so.ordered);
  inside = omega arith;
  within = within_more text spans end lt so.within;
  clear = ap (is_clear 44) (one_further text start end so.ordered lt) ∙ clear_more 44
      (take (end - start) (drop start text)) (get_or text end 0) so.clear other;
  no_end = ap has_no_end (further text end lt) ∙ no_end_more (take end text)
      (get_or text end 0) so.no_end no_end;
  cut = so.cut;
}

-- a byte that ends no field is no comma and ends no line
no_mark : (b : ℕ) → is_mark b ≡ false → ((b == 44) ≡ false) × (is_end b ≡ false)
no_mark b h = elim (cases_Bool (b == 44)) [
  | inl e ↦ cc (sym h ∙ ap (λ (x : Bool). x || is_end b) e)
  | inr e ↦ (e, sym (ap (λ (x : Bool). x || is_end b) e) ∙ h)
]

-- as far as bytes go that end no field
pub cut_runs : (text : List ℕ) (spans : List FieldSpan) (start end k : ℕ)
    → IsCut text spans start end → end + k ≤ length text
    → ((i : ℕ) → end ≤ i → i < end + k → is_mark (get_or text i 0) ≡ false)
    → IsCut text spans start (end + k)
cut_runs text spans start end zero so inside none =
    subst (λ n. IsCut text spans start n) (no_further end) so
cut_runs text spans start end (suc k) so inside none =
    let shorter : end + k ≤ length text = omega (arith, inside) in
    let before = cut_runs text spans start end k so shorter
    (λ i low high. none i low (omega (arith, high))) in
    let here = no_mark (get_or text (end + k) 0) (none (end + k) (omega arith) (omega arith)) in
    subst (λ n. IsCut text spans start n) (one_more end k)
    (cut_goes_on text spans start (end + k) before (omega (arith, inside)) here.0 here.1)

nothing_is_clear : (xs : List ℕ) (n : ℕ) → is_clear 44 (take (n - n) (drop n xs)) ≡ true
nothing_is_clear xs n =
    let none : n - n ≡ 0 = omega arith in
    ap (λ (k : ℕ). is_clear 44 (take k (drop n xs))) none

pub cut_at_comma : (text : List ℕ) (spans : List FieldSpan) (start end : ℕ)
    → IsCut text spans start end → end < length text → get_or text end 0 ≡ 44
    → IsCut text (spans ++ span_of start end ∷ []) (end + 1) (end + 1)
cut_at_comma text spans start end so lt comma =
    let part : List ℕ = take (end - start) (drop start text) in
    let front : take (end + 1) text ≡ (take start text ++ part) ++ (44 ∷ []) =
    further text end lt ∙ ap (λ (b : ℕ). take end text ++ (b ∷ [])) comma ∙ ap
    (λ (xs : List ℕ). xs ++ (44 ∷ [])) (between text start end so.ordered (omega arith)) in
    let long : length (take (end + 1) text)
    ≡ end + 1 = length-take-le (end + 1) text (omega arith) in
    let no_end : is_end (get_or text end 0) ≡ false = ap is_end comma in
    record {
      ordered = omega arith;
      inside = omega arith;
      within = All-push (IsFieldWithin (take (end + 1) text)) spans (span_of start end)
          (within_more text spans end lt so.within)
          (record { ordered = so.ordered; within = omega (arith, long) });
      clear = nothing_is_clear text (end + 1);
      no_end = ap has_no_end (further text end lt) ∙ no_end_more (take end text)
          (get_or text end 0) so.no_end no_end;
      cut = λ rest.
          ap (λ (xs : List ℕ). parts 44 (xs ++ rest)) front
          ∙ ap (parts 44) (append_assoc (take start text ++ part) (44 ∷ []) rest ∙ append_assoc
          (take start text) part (44 ∷ rest))
          ∙ so.cut (part ++ (44 ∷ rest))
          ∙ ap (λ (fields : Record). map (part_of text) spans ++ fields)
          (parts-mark 44 part rest so.clear)
          ∙ sym (append_assoc (map (part_of text) spans) (part ∷ []) (parts 44 rest))
          ∙ ap (λ (fields : Record). fields ++ parts 44 rest)
          (sym (map-append (part_of text) spans (span_of start end ∷ [])));
    }

-- the last field of a line ends with it
pub ends_within : (text : List ℕ) (spans : List FieldSpan) (start end : ℕ) → IsCut text spans start
    end → All (IsFieldWithin (take end text)) (spans ++ span_of start end ∷ [])
ends_within text spans start end so =
    let long : length (take end text) ≡ end = length-take-le end text so.inside in
    All-push (IsFieldWithin (take end text)) spans (span_of start end) so.within
    (record { ordered = so.ordered; within = omega (arith, long) })

pub cut_ends : (text : List ℕ) (spans : List FieldSpan) (start end : ℕ) → IsCut text spans start end
    → map (part_of (take end text)) (spans ++ span_of start end ∷ []) ≡ parts 44 (take end text)
cut_ends text spans start end so =
    let part : List ℕ = take (end - start) (drop start text) in
    let all : List FieldSpan = spans ++ span_of start end ∷ [] in
    let whole : take end text ++ drop end text ≡ text = take-append-drop end text in
    sym (parts_stay (take end text) (drop end text) all (ends_within text spans start end so))
    ∙ ap (λ (xs : List ℕ). map (part_of xs) all) whole
    ∙ map-append (part_of text) spans (span_of start end ∷ [])
    ∙ ap (λ (fields : Record). map (part_of text) spans ++ fields)
    (sym (parts-clear 44 part so.clear))
    ∙ sym (so.cut part) ∙ ap (parts 44) (sym (between text start end so.ordered so.inside))

pub line_ends : (text : List ℕ) (spans : List FieldSpan) (start end : ℕ) → IsCut text spans start
    end → (end < length text → is_end (get_or text end 0) ≡ true) → IsLineEnd text end
line_ends text spans start end so there =
    record { within = so.inside; no_end = so.no_end; end_there = there }

-- a list without an end of a line has neither of the two bytes
neither : (b : ℕ) → not (is_end b) ≡ true → (not (b == 10) ≡ true) × (not (b == 13) ≡ true)
neither b h = elim (cases_Bool (b == 10)) [
  | inl e ↦ cc (sym (ap (λ (x : Bool). not (x || (b == 13))) e) ∙ h)
  | inr e ↦ (ap not e, sym (ap (λ (x : Bool). not (x || (b == 13))) e) ∙ h)
]

no_end_is_clear : (xs : List ℕ) → has_no_end xs ≡ true
    → (is_clear 10 xs ≡ true) × (is_clear 13 xs ≡ true)
no_end_is_clear [] h = (refl, refl)
no_end_is_clear (b ∷ rest) h =
    let p = and_parts (not (is_end b)) (has_no_end rest) h in
    let here = neither b p.0 in
    let others = no_end_is_clear rest p.1 in
    (rw (here.0, others.0) refl, rw (here.1, others.1) refl)

kept : (line : List ℕ) (lines : List (List ℕ)) → has_byte line ≡ true
    → records_of_lines (line ∷ lines) ≡ parts 44 line ∷ records_of_lines lines
kept line lines some = rw some refl

-- the first line of a text that begins with no end of a line has a byte
some_line : (text : List ℕ) (end : ℕ) → IsLineEnd text end → has_byte text ≡ true
    → begins_with_end text ≡ false → has_byte (take end text) ≡ true
some_line [] end ends some begins = cc some
some_line (c ∷ rest) zero ends some begins = cc (sym begins ∙ ends.end_there (omega arith))
some_line (c ∷ rest) (suc end) ends some begins = refl

-- the ends of lines that a text begins with don't count
pub feed_first : (rest : List ℕ) → records_of_text (10 ∷ rest) ≡ records_of_text rest
unfolding cut without
feed_first rest = refl

pub return_first : (rest : List ℕ) → records_of_text (13 ∷ rest) ≡ records_of_text rest
unfolding without
return_first rest = refl

pub end_first : (c : ℕ) (rest : List ℕ) → is_end c ≡ true
    → records_of_text (c ∷ rest) ≡ records_of_text rest
end_first c rest h = elim (cases_Bool (c == 10)) [
  | inl e ↦ ap (λ (b : ℕ). records_of_text (b ∷ rest)) (eqb-true c 10 e) ∙ feed_first rest
  | inr e ↦ ap (λ (b : ℕ). records_of_text (b ∷ rest))
      (eqb-true c 13 (sym (ap (λ (x : Bool). x || (c == 13)) e) ∙ h)) ∙ return_first rest
]

-- what stands behind a place of an input text is one
pub input_behind : (xs : List ℕ) (k : ℕ) → is_input_text xs ≡ true
    → is_input_text (drop k xs) ≡ true
unfolding is_input_text
input_behind xs zero h = h
input_behind [] (suc k) h = h
input_behind (b ∷ rest) (suc k) h =
    let p = and_parts (is_input_byte b rest) (is_input_text rest) h in input_behind rest k p.1

-- a carriage return stands before a line feed
before_feed : (rest : List ℕ) → is_input_text (13 ∷ rest) ≡ true → begins_with_feed rest ≡ true
unfolding is_input_text
before_feed rest h = let p = and_parts (is_input_byte 13 rest) (is_input_text rest) h in p.0

-- a line, a carriage return, and a line feed
return_follows : (line rest : List ℕ) → has_no_end line ≡ true → has_byte line ≡ true
    → begins_with_feed rest ≡ true
    → records_of_text (line ++ (13 ∷ rest)) ≡ parts 44 line ∷ records_of_text rest
unfolding without cut
return_follows line [] none some feed = cc feed
return_follows line (c ∷ more) none some feed =
    let clear = no_end_is_clear line none in
    let at : c ≡ 10 = eqb-true c 10 feed in
    ap (λ (b : ℕ). records_of_text (line ++ (13 ∷ b ∷ more))) at
    ∙ ap (λ (t : List ℕ). records_of_lines (parts 10 t))
    (without-clear 13 line (13 ∷ 10 ∷ more) clear.1)
    ∙ ap records_of_lines (parts-mark 10 line (without 13 more) clear.0) ∙ kept line
    (parts 10 (without 13 more)) some
    ∙ ap (λ (b : ℕ). parts 44 line ∷ records_of_text (b ∷ more)) (sym at)

-- a line and a line feed
feed_follows : (line rest : List ℕ) → has_no_end line ≡ true → has_byte line ≡ true
    → records_of_text (line ++ (10 ∷ rest)) ≡ parts 44 line ∷ records_of_text rest
unfolding without
feed_follows line rest none some =
    let clear = no_end_is_clear line none in
    ap (λ (t : List ℕ). records_of_lines (parts 10 t)) (without-clear 13 line (10 ∷ rest) clear.1)
    ∙ ap records_of_lines (parts-mark 10 line (without 13 rest) clear.0) ∙ kept line
    (parts 10 (without 13 rest)) some

end_follows : (line : List ℕ) (c : ℕ) (rest : List ℕ) → is_end c ≡ true
    → is_input_text (c ∷ rest) ≡ true → has_no_end line ≡ true → has_byte line ≡ true
    → records_of_text (line ++ (c ∷ rest)) ≡ parts 44 line ∷ records_of_text rest
end_follows line c rest h input none some = elim (cases_Bool (c == 10)) [
  | inl e ↦ ap (λ (b : ℕ). records_of_text (line ++ (b ∷ rest)))
      (eqb-true c 10 e) ∙ feed_follows line rest none some
  | inr e ↦
      let at : c ≡ 13 = eqb-true c 13 (sym (ap (λ (x : Bool). x || (c == 13)) e) ∙ h) in
      ap (λ (b : ℕ). records_of_text (line ++ (b ∷ rest))) at ∙ return_follows line rest none some
      (before_feed rest (subst (λ (b : ℕ). is_input_text (b ∷ rest) ≡ true) at input))
]

pub nothing_left : records_of_text [] ≡ []
unfolding cut without
nothing_left = refl

-- the last line of a text
text_ends : (text : List ℕ) (end : ℕ) → IsLineEnd text end → end ≡ length text
    → has_byte text ≡ true
    → records_of_text text ≡ parts 44 (take end text) ∷ records_of_text (drop (end + 1) text)
unfolding without
text_ends text end ends at some =
    let all : take end text ≡ text = take_all end text (omega (arith, at)) in
    let none : drop (end + 1) text ≡ [] = drop_all (end + 1) text (omega (arith, at)) in
    let clear = no_end_is_clear text
    (subst (λ (ys : List ℕ). has_no_end ys ≡ true) all ends.no_end) in
    ap (λ (t : List ℕ). records_of_lines (parts 10 t)) (ap (without 13)
    (sym (append-nil text)) ∙ without-clear 13 text [] clear.1 ∙ append-nil text)
    ∙ ap records_of_lines (parts-clear 10 text clear.0) ∙ kept text [] some
    ∙ ap (λ (fields : Record). fields ∷ []) (ap (parts 44) (sym all))
    ∙ ap (λ (records : List Record). parts 44 (take end text) ∷ records)
    (sym (ap records_of_text none ∙ nothing_left))

text_goes_on : (text : List ℕ) (end : ℕ) → IsLineEnd text end → end < length text
    → is_input_text text ≡ true → has_byte (take end text) ≡ true
    → records_of_text text ≡ parts 44 (take end text) ∷ records_of_text (drop (end + 1) text)
text_goes_on text end ends lt input some =
    let rest : drop end text ≡ get_or text end 0 ∷ drop (end + 1) text = drop_more text end 0 lt in
    let whole : text ≡ take end text ++ (get_or text end 0 ∷ drop (end + 1) text) = sym
    (take-append-drop end text) ∙ ap (λ (ys : List ℕ). take end text ++ ys) rest in
    ap records_of_text whole
    ∙ end_follows (take end text) (get_or text end 0) (drop (end + 1) text) (ends.end_there lt)
    (subst (λ (ys : List ℕ). is_input_text ys ≡ true) rest (input_behind text end input))
    ends.no_end some

-- the end of a line doesn't count
from_end : (text : List ℕ) (end : ℕ) → IsLineEnd text end
    → records_of_text (drop (end + 1) text) ≡ records_of_text (drop end text)
from_end text end ends = elim (eq-or-lt_of_le ends.within) [
  | inl at ↦ ap records_of_text
      (drop_all (end + 1) text (omega (arith, at)) ∙ sym (drop_all end text (omega (arith, at))))
  | inr lt ↦ sym (ap records_of_text (drop_more text end 0 lt) ∙ end_first (get_or text end 0)
      (drop (end + 1) text) (ends.end_there lt))
]

-- the first record of a text is that of its first line
pub first_record : (text : List ℕ) (end : ℕ) → IsLineEnd text end → is_input_text text ≡ true
    → has_byte text ≡ true → begins_with_end text ≡ false
    → records_of_text text ≡ parts 44 (take end text) ∷ records_of_text (drop end text)
first_record text end ends input some begins =
    let behind : records_of_text text ≡ parts 44 (take end text)
    ∷ records_of_text (drop (end + 1) text) = elim (eq-or-lt_of_le ends.within) [
      | inl at ↦ text_ends text end ends at some
      | inr lt ↦ text_goes_on text end ends lt input (some_line text end ends some begins)
    ] in
    behind ∙ ap (λ (records : List Record). parts 44 (take end text) ∷ records)
    (from_end text end ends)

-- a text without the line feed that it begins with
pub feed_taken : (xs : List ℕ) → 1 ≤ length xs → get_or xs 0 0 ≡ 10 → is_input_text xs ≡ true
    → (is_input_text (take (length xs - 1) (drop 1 xs)) ≡ true)
    × (records_of_text (take (length xs - 1) (drop 1 xs)) ≡ records_of_text xs)
feed_taken [] some h input = absurd (omega (arith, some))
feed_taken (c ∷ rest) some h input =
    let left : take (length (c ∷ rest) - 1) (drop 1 (c ∷ rest)) ≡ rest = rest_is (c ∷ rest) 1 in (
      ap is_input_text left ∙ input_behind (c ∷ rest) 1 input,
      ap records_of_text left ∙ sym
          (ap (λ (b : ℕ). records_of_text (b ∷ rest)) h ∙ feed_first rest),
    )
