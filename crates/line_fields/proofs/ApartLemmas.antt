-- A text behind whole lines: its records stand behind theirs, and its bytes are judged apart from
-- theirs.
use Rattle.std.proofs.Common.{◌≡◌, ℕ, ◌==◌, ◌&&◌, ◌||◌, Bool, true, false, not, List, [], ◌∷◌, ◌++◌}
use Rattle.std.proofs.Common.{refl, sym, ap, ◌∙◌, subst, inl, inr, append_assoc}
use Rattle.std.specs.Prelude.{filter, map, nat_le}
use Rattle.std.proofs.lemmas.Bool.{cases_Bool}
use Rattle.std.proofs.lemmas.List.{append-nil, map-append}
use Rattle.std.proofs.lemmas.List.Elements.{filter-append}
use Rattle.line_fields.specs.Bytes.{begins_with_feed, is_input_byte, is_input_text}
use Rattle.line_fields.specs.Records.{EndsLine, Record, cut, has_byte, parts, records_of_lines}
use Rattle.line_fields.specs.Records.{records_of_text, without}
use Rattle.line_fields.proofs.TextLemmas.{empty_is_input, records_of_nothing}

-- ---- records

without_both : (xs ys : List ℕ) → without 13 (xs ++ ys) ≡ without 13 xs ++ without 13 ys
unfolding without
without_both [] ys = refl
without_both (c ∷ xs) ys = elim (cases_Bool (c == 13)) [
  | inl e ↦ rw e
      (without_both xs ys)
  | inr e ↦ rw e (ap (λ (zs : List ℕ). c ∷ zs) (without_both xs ys))
]

without_feed : (ys : List ℕ) → without 13 (10 ∷ ys) ≡ 10 ∷ without 13 ys
unfolding without
without_feed ys = refl

-- a byte in front of the first of some lines
abbrev with_byte : ℕ → List (List ℕ) → List (List ℕ)
with_byte c [] = []
with_byte c (line ∷ lines) = (c ∷ line) ∷ lines

parts_here : (c : ℕ) (xs : List ℕ) → (c == 10) ≡ true → parts 10 (c ∷ xs) ≡ [] ∷ parts 10 xs
unfolding cut
parts_here c xs e = rw e refl

parts_other : (c : ℕ) (xs : List ℕ) → (c == 10) ≡ false
    → parts 10 (c ∷ xs) ≡ with_byte c (parts 10 xs)
unfolding cut
parts_other c xs e = rw e refl

parts_nothing : (ys : List ℕ) → parts 10 (10 ∷ ys) ≡ parts 10 [] ++ parts 10 ys
unfolding cut
parts_nothing ys = refl

parts_both : (xs ys : List ℕ) → parts 10 (xs ++ 10 ∷ ys) ≡ parts 10 xs ++ parts 10 ys
parts_both [] ys = parts_nothing ys
parts_both (c ∷ xs) ys = elim (cases_Bool (c == 10)) [
  | inl e ↦
      parts_here c (xs ++ 10 ∷ ys) e ∙ ap (λ (lines : List (List ℕ)). [] ∷ lines) (parts_both xs ys)
      ∙ sym (ap (λ (lines : List (List ℕ)). lines ++ parts 10 ys) (parts_here c xs e))
  | inr e ↦
      parts_other c (xs ++ 10 ∷ ys) e ∙ ap (with_byte c) (parts_both xs ys)
      ∙ sym (ap (λ (lines : List (List ℕ)). lines ++ parts 10 ys) (parts_other c xs e))
]

lines_both : (xs ys : List (List ℕ))
    → records_of_lines (xs ++ ys) ≡ records_of_lines xs ++ records_of_lines ys
lines_both xs ys = ap (map (parts 44)) (filter-append has_byte xs ys) ∙ map-append (parts 44)
    (filter has_byte xs) (filter has_byte ys)

behind_feed : (xs rest : List ℕ) → records_of_text (xs ++ 10 ∷ rest)
    ≡ records_of_lines (parts 10 (without 13 xs)) ++ records_of_text rest
behind_feed xs rest =
    let bare : without 13 (xs ++ 10 ∷ rest) ≡ without 13 xs ++ 10 ∷ without 13 rest = without_both
    xs (10 ∷ rest) ∙ ap (λ (zs : List ℕ). without 13 xs ++ zs) (without_feed rest) in
    ap (λ (t : List ℕ). records_of_lines (parts 10 t)) bare
    ∙ ap records_of_lines (parts_both (without 13 xs) (without 13 rest))
    ∙ lines_both (parts 10 (without 13 xs)) (parts 10 (without 13 rest))

up_to_feed : (xs : List ℕ)
    → records_of_text (xs ++ 10 ∷ []) ≡ records_of_lines (parts 10 (without 13 xs))
up_to_feed xs =
    behind_feed xs [] ∙ ap
    (λ (rs : List Record). records_of_lines (parts 10 (without 13 xs)) ++ rs) records_of_nothing
    ∙ append-nil (records_of_lines (parts 10 (without 13 xs)))

pub records_apart : (front rest : List ℕ) → EndsLine front
    → records_of_text (front ++ rest) ≡ records_of_text front ++ records_of_text rest
records_apart front rest (inl none) =
    subst (λ (t : List ℕ). records_of_text (t ++ rest) ≡ records_of_text t ++ records_of_text rest)
    (sym none)
    (sym (ap (λ (rs : List Record). rs ++ records_of_text rest) records_of_nothing))
records_apart front rest (inr (xs, is)) =
    subst (λ (t : List ℕ). records_of_text (t ++ rest) ≡ records_of_text t ++ records_of_text rest)
    (sym is)
    (ap records_of_text (append_assoc xs (10 ∷ []) rest) ∙ behind_feed xs rest
    ∙ sym (ap (λ (rs : List Record). rs ++ records_of_text rest) (up_to_feed xs)))

-- ---- bytes

and_assoc : (a b c : Bool) → (a && (b && c)) ≡ ((a && b) && c)
and_assoc true b c = refl
and_assoc false b c = refl

begins_same : (xs rest : List ℕ)
    → begins_with_feed ((xs ++ 10 ∷ []) ++ rest) ≡ begins_with_feed (xs ++ 10 ∷ [])
begins_same [] rest = refl
begins_same (c ∷ xs) rest = refl

allowed_same : (c : ℕ) (xs rest : List ℕ)
    → is_input_byte c ((xs ++ 10 ∷ []) ++ rest) ≡ is_input_byte c (xs ++ 10 ∷ [])
allowed_same c xs rest =
    ap (λ (b : Bool). (nat_le 32 c && nat_le c 126 && not (c == 34)) || (c == 10) ||
    ((c == 13) && b)) (begins_same xs rest)

input_cons : (c : ℕ) (xs : List ℕ)
    → is_input_text (c ∷ xs) ≡ (is_input_byte c xs && is_input_text xs)
unfolding is_input_text
input_cons c xs = refl

feed_alone : (rest : List ℕ)
    → is_input_text (10 ∷ rest) ≡ (is_input_text (10 ∷ []) && is_input_text rest)
unfolding is_input_text
feed_alone rest = refl

input_both : (xs rest : List ℕ) → is_input_text ((xs ++ 10 ∷ []) ++ rest)
    ≡ (is_input_text (xs ++ 10 ∷ []) && is_input_text rest)
input_both [] rest = feed_alone rest
input_both (c ∷ xs) rest =
    let all : Bool = is_input_text (xs ++ 10 ∷ []) in
    input_cons c ((xs ++ 10 ∷ []) ++ rest)
    ∙ ap (λ (b : Bool). b && is_input_text ((xs ++ 10 ∷ []) ++ rest)) (allowed_same c xs rest)
    ∙ ap (λ (b : Bool). is_input_byte c (xs ++ 10 ∷ []) && b) (input_both xs rest)
    ∙ and_assoc (is_input_byte c (xs ++ 10 ∷ [])) all (is_input_text rest)
    ∙ sym (ap (λ (b : Bool). b && is_input_text rest) (input_cons c (xs ++ 10 ∷ [])))

pub input_apart : (front rest : List ℕ) → EndsLine front
    → is_input_text (front ++ rest) ≡ (is_input_text front && is_input_text rest)
input_apart front rest (inl none) =
    subst (λ (t : List ℕ). is_input_text (t ++ rest) ≡ (is_input_text t && is_input_text rest))
    (sym none)
    (sym (ap (λ (b : Bool). b && is_input_text rest) empty_is_input))
input_apart front rest (inr (xs, is)) =
    subst (λ (t : List ℕ). is_input_text (t ++ rest) ≡ (is_input_text t && is_input_text rest))
    (sym is) (input_both xs rest)
