-- Lines that end within bytes, and what is left behind them.
use Rattle.std.proofs.Common.{◌≡◌, ◌<◌, ◌≤◌, ℕ, zero, suc, ◌+◌, ◌&&◌, Bool, true, false, cond, List}
use Rattle.std.proofs.Common.{[], ◌∷◌, ◌++◌, append_assoc, drop, get_or, length, take, refl, sym}
use Rattle.std.proofs.Common.{ap, ◌∙◌, inl, inr, arith, le-leb, length-append}
use Rattle.std.specs.Prelude.{Err, ◌==◌, nat_le, not}
use Rattle.std.specs.List.{flat_map}
use Rattle.std.proofs.lemmas.Bool.{cases_Bool, leb-false, lt-leb}
use Rattle.std.proofs.lemmas.Grind.{flat_map-append}
use Rattle.std.proofs.lemmas.List.{append-nil, drop_more, take-append-drop, take_all}
use Rattle.line_fields.specs.declared.faults.Fault.TheVariants.{BadRecord}
use Rattle.line_text.specs.declared.limits.TheConstants.{MOST_LINE}
use Rattle.line_text.specs.Lines.{Pending, Kept, Dropped, IsFirstFeed, ended_record}
use Rattle.line_text.specs.Lines.{has_no_feed, lines_in, longer, pending_after}
use Rattle.line_text.specs.Conversations.{records_ending_in}

-- ---- tests

pub both_true : (a b : Bool) → (a && b) ≡ true → (a ≡ true) × (b ≡ true)
both_true true b h = (refl, h)
both_true false b h = absurd (elim (cases_Bool false) [ inl e ↦ cc | inr e ↦ cc ])

-- the first byte is no line feed, and none behind it is
pub no_feed_parts : (byte : ℕ) (rest : List ℕ) → has_no_feed (byte ∷ rest) ≡ true
    → ((byte == 10) ≡ false) × (has_no_feed rest ≡ true)
no_feed_parts byte rest h =
    let parts = both_true (not (byte == 10)) (has_no_feed rest) h in (
      elim (byte == 10) as
          (λ b. not b ≡ true → b ≡ false) [ true ↦ λ e. sym e | false ↦ λ e. refl ] parts.0,
      parts.1,
    )

pub no_feed_of : (byte : ℕ) (rest : List ℕ) → (byte == 10) ≡ false → has_no_feed rest ≡ true
    → has_no_feed (byte ∷ rest) ≡ true
no_feed_of byte rest other none = rw (other, none) refl

-- ---- a line that grows

-- a line with so many bytes
abbrev kept_if : Bool → List ℕ → Pending
kept_if short bytes = cond short (Kept bytes) Dropped

longer_if : (own xs ys : List ℕ) (short : Bool) → nat_le (length own + length xs) MOST_LINE ≡ short
    → longer (kept_if short (own ++ xs)) ys ≡ longer (Kept own) (xs ++ ys)
longer_if own xs ys true is =
    let count : length (own ++ xs) + length ys ≡ length own + length (xs ++ ys) = omega
    (arith, length-append own xs, length-append xs ys) in
    rw (count, append_assoc) refl
longer_if own xs ys false is =
    let long : MOST_LINE < length own + length (xs ++ ys) = omega
    (arith, leb-false (length own + length xs) MOST_LINE is, length-append xs ys) in
    rw (lt-leb (length own + length (xs ++ ys)) MOST_LINE long) refl

pub longer_both : (pending : Pending) (xs ys : List ℕ)
    → longer (longer pending xs) ys ≡ longer pending (xs ++ ys)
longer_both (Kept own) xs ys = longer_if own xs ys (nat_le (length own + length xs) MOST_LINE) refl
longer_both Dropped xs ys = refl

-- ---- bytes without a line feed

pub no_lines_if : (pending : Pending) (byte : ℕ) (rest : List ℕ) → (byte == 10) ≡ false
    → lines_in pending (byte ∷ rest) ≡ lines_in (longer pending (byte ∷ [])) rest
unfolding lines_in
no_lines_if pending byte rest other = rw other refl

pub no_end_if : (pending : Pending) (byte : ℕ) (rest : List ℕ) → (byte == 10) ≡ false
    → pending_after pending (byte ∷ rest) ≡ pending_after (longer pending (byte ∷ [])) rest
unfolding pending_after
no_end_if pending byte rest other = rw other refl

pub lines_nil : (pending : Pending) → lines_in pending [] ≡ []
unfolding lines_in
lines_nil pending = refl

pub pending_nil : (pending : Pending) → pending_after pending [] ≡ pending
unfolding pending_after
pending_nil pending = refl

pub lines_feed : (pending : Pending) (rest : List ℕ)
    → lines_in pending (10 ∷ rest) ≡ pending ∷ lines_in (Kept []) rest
unfolding lines_in
lines_feed pending rest = refl

pub pending_feed : (pending : Pending) (rest : List ℕ)
    → pending_after pending (10 ∷ rest) ≡ pending_after (Kept []) rest
unfolding pending_after
pending_feed pending rest = refl

pub no_lines : (pending : Pending) (bytes : List ℕ) → has_no_feed bytes ≡ true
    → lines_in pending bytes ≡ []
no_lines pending [] none = lines_nil pending
no_lines pending (byte ∷ rest) none =
    let parts = no_feed_parts byte rest none in
    no_lines_if pending byte rest parts.0 ∙ no_lines (longer pending (byte ∷ [])) rest parts.1

pub grows : (pending : Pending) (byte : ℕ) (rest : List ℕ) → has_no_feed (byte ∷ rest) ≡ true
    → pending_after pending (byte ∷ rest) ≡ longer pending (byte ∷ rest)
grows pending byte [] none = no_end_if pending byte [] (no_feed_parts byte [] none).0 ∙ pending_nil
    (longer pending (byte ∷ []))
grows pending byte (next ∷ rest) none =
    let parts = no_feed_parts byte (next ∷ rest) none in
    no_end_if pending byte (next ∷ rest) parts.0 ∙ grows (longer pending (byte ∷ [])) next rest
    parts.1 ∙ longer_both pending (byte ∷ []) (next ∷ rest)

-- a line whose bytes are within the limit
pub stays_kept : (own bytes : List ℕ) → has_no_feed bytes ≡ true
    → length own + length bytes ≤ MOST_LINE → pending_after (Kept own) bytes ≡ Kept (own ++ bytes)
stays_kept own [] none short = pending_nil (Kept own) ∙ ap Kept (sym (append-nil own))
stays_kept own (byte ∷ rest) none short = grows (Kept own) byte rest none ∙ rw
    (le-leb (length own + length (byte ∷ rest)) MOST_LINE short) refl

pub gets_dropped : (own bytes : List ℕ) → has_no_feed bytes ≡ true → length own ≤ MOST_LINE
    → MOST_LINE < length own + length bytes → pending_after (Kept own) bytes ≡ Dropped
gets_dropped own [] none short long =
    let nothing : length {A = ℕ} [] ≡ 0 = refl in absurd (omega (arith, nothing))
gets_dropped own (byte ∷ rest) none short long = grows (Kept own) byte rest none ∙ rw
    (lt-leb (length own + length (byte ∷ rest)) MOST_LINE long) refl

pub stays_dropped : (bytes : List ℕ) → has_no_feed bytes ≡ true
    → pending_after Dropped bytes ≡ Dropped
stays_dropped [] none = pending_nil Dropped
stays_dropped (byte ∷ rest) none = grows Dropped byte rest none

-- the record of a line that came whole
pub kept_record : (line : List ℕ) → has_no_feed line ≡ true → length line ≤ MOST_LINE
    → ended_record (Kept line) ≡ ended_record (pending_after (Kept []) line)
kept_record line none short = let nothing : length {A = ℕ} []
    ≡ 0 = refl in ap ended_record (sym (stays_kept [] line none (omega (arith, nothing))))

pub dropped_record : (line : List ℕ) → has_no_feed line ≡ true → MOST_LINE < length line
    → (Err BadRecord ∷ []) ≡ ended_record (pending_after (Kept []) line)
dropped_record line none long = let nothing : length {A = ℕ} [] ≡ 0 = refl in ap ended_record
    (sym (gets_dropped [] line none (omega (arith, nothing)) (omega (arith, nothing))))

-- ---- bytes, and more bytes

lines_if : (pending : Pending) (byte : ℕ) (rest more : List ℕ) (feed : Bool) → (byte == 10) ≡ feed
    → (cond feed (pending ∷ lines_in (Kept []) (rest ++ more))
    (lines_in (longer pending (byte ∷ [])) (rest ++ more)))
    ≡ cond feed (pending
    ∷ (lines_in (Kept []) rest ++ lines_in (pending_after (Kept []) rest) more))
    (lines_in (longer pending (byte ∷ [])) rest
    ++ lines_in (pending_after (longer pending (byte ∷ [])) rest) more)
    → lines_in pending (byte ∷ (rest ++ more))
    ≡ lines_in pending (byte ∷ rest) ++ lines_in (pending_after pending (byte ∷ rest)) more
unfolding lines_in pending_after
lines_if pending byte rest more true is same = rw is same
lines_if pending byte rest more false is same = rw is same

pub lines_both : (pending : Pending) (bytes more : List ℕ) → lines_in pending (bytes ++ more)
    ≡ lines_in pending bytes ++ lines_in (pending_after pending bytes) more
lines_both pending [] more = sym (ap (λ (ls : List Pending). ls ++ lines_in (pending_after pending
    []) more) (lines_nil pending) ∙ ap (λ (p : Pending). lines_in p more) (pending_nil pending))
lines_both pending (byte ∷ rest) more =
    lines_if pending byte rest more (byte == 10) refl
    (elim (byte == 10) as (λ b. cond b (pending ∷ lines_in (Kept []) (rest ++ more))
    (lines_in (longer pending (byte ∷ [])) (rest ++ more))
    ≡ cond b (pending ∷ (lines_in (Kept []) rest ++ lines_in (pending_after (Kept []) rest) more))
    (lines_in (longer pending (byte ∷ [])) rest
    ++ lines_in (pending_after (longer pending (byte ∷ [])) rest) more)) [
      | true ↦ ap (λ (ls : List Pending). pending ∷ ls) (lines_both (Kept []) rest more)
      | false ↦ lines_both (longer pending (byte ∷ [])) rest more
    ])

pending_if : (pending : Pending) (byte : ℕ) (rest more : List ℕ) (feed : Bool) → (byte == 10) ≡ feed
    → cond feed (pending_after (Kept []) (rest ++ more))
    (pending_after (longer pending (byte ∷ [])) (rest ++ more))
    ≡ pending_after (cond feed (pending_after (Kept []) rest)
    (pending_after (longer pending (byte ∷ [])) rest)) more
    → pending_after pending (byte ∷ (rest ++ more))
    ≡ pending_after (pending_after pending (byte ∷ rest)) more
unfolding pending_after
pending_if pending byte rest more true is same = rw is same
pending_if pending byte rest more false is same = rw is same

pub pending_both : (pending : Pending) (bytes more : List ℕ)
    → pending_after pending (bytes ++ more) ≡ pending_after (pending_after pending bytes) more
pending_both pending [] more =
    ap (λ (p : Pending). pending_after p more) (sym (pending_nil pending))
pending_both pending (byte ∷ rest) more =
    pending_if pending byte rest more (byte == 10) refl
    (elim (byte == 10) as (λ b. cond b (pending_after (Kept []) (rest ++ more))
    (pending_after (longer pending (byte ∷ [])) (rest ++ more))
    ≡ pending_after (cond b (pending_after (Kept []) rest)
    (pending_after (longer pending (byte ∷ [])) rest)) more) [
      | true ↦ pending_both (Kept []) rest more
      | false ↦ pending_both (longer pending (byte ∷ [])) rest more
    ])

pub records_both : (pending : Pending) (bytes more : List ℕ) → records_ending_in pending (bytes ++
    more) ≡ records_ending_in pending bytes ++ records_ending_in (pending_after pending bytes) more
records_both pending bytes more = ap (flat_map ended_record)
    (lines_both pending bytes more) ∙ flat_map-append ended_record (lines_in pending bytes)
    (lines_in (pending_after pending bytes) more)

-- ---- where a line ends

pub records_nil : (pending : Pending) → records_ending_in pending [] ≡ []
records_nil pending = ap (flat_map ended_record) (lines_nil pending)

pub no_records : (pending : Pending) (bytes : List ℕ) → has_no_feed bytes ≡ true
    → records_ending_in pending bytes ≡ []
no_records pending bytes none = ap (flat_map ended_record) (no_lines pending bytes none)

records_feed : (pending : Pending) (more : List ℕ) → records_ending_in pending (10 ∷ more)
    ≡ ended_record pending ++ records_ending_in (Kept []) more
records_feed pending more = ap (flat_map ended_record) (lines_feed pending more)

-- the record of the line that ends there comes before the others
pub first_record : (pending : Pending) (bytes more : List ℕ) → has_no_feed bytes ≡ true
    → records_ending_in pending (bytes ++ 10 ∷ more)
    ≡ ended_record (pending_after pending bytes) ++ records_ending_in (Kept []) more
first_record pending bytes more none =
    records_both pending bytes (10 ∷ more) ∙ ap (λ (rs : List _). rs ++ records_ending_in
    (pending_after pending bytes) (10 ∷ more)) (no_records pending bytes none)
    ∙ records_feed (pending_after pending bytes) more

pub pending_behind : (pending : Pending) (bytes more : List ℕ)
    → pending_after pending (bytes ++ 10 ∷ more) ≡ pending_after (Kept []) more
pending_behind pending bytes more =
    pending_both pending bytes (10 ∷ more) ∙ pending_feed (pending_after pending bytes) more

-- ---- the first line feed

-- no byte before that place is one
pub none_before : (bytes : List ℕ) (n : ℕ) → n ≤ length bytes
    → ((k : ℕ) → k < n → (get_or bytes k 0 == 10) ≡ true → ⊥) → has_no_feed (take n bytes) ≡ true
none_before bytes zero within other = refl
none_before [] (suc n) within other =
    let nothing : length {A = ℕ} [] ≡ 0 = refl in absurd (omega (arith, nothing))
none_before (byte ∷ rest) (suc n) within other =
    let here : (byte == 10) ≡ false = elim
    (cases_Bool (byte == 10)) [ inl e ↦ absurd (other 0 (omega arith) e) | inr e ↦ e ] in
    let long : length (byte ∷ rest) ≡ suc (length rest) = refl in
    no_feed_of byte (take n rest) here
    (none_before rest n (omega (arith, long)) (λ k lt. other (suc k) (omega arith)))

pub first_feed_at : (bytes : List ℕ) (at : ℕ) → at < length bytes → ((k : ℕ) → k < at
    → (get_or bytes k 0 == 10) ≡ true → ⊥) → get_or bytes at 0 ≡ 10 → IsFirstFeed bytes at
first_feed_at bytes at within other is = record {
  within = within;
  none_before = none_before bytes at (omega arith) other;
  there = sym (take-append-drop at bytes) ∙ ap (λ (r : List ℕ). take at bytes ++ r)
      (drop_more bytes at 0 within ∙ ap (λ (x : ℕ). x ∷ drop (at + 1) bytes) is);
}

pub no_feed_in : (bytes : List ℕ)
    → ((k : ℕ) → k < length bytes → (get_or bytes k 0 == 10) ≡ true → ⊥) → has_no_feed bytes ≡ true
no_feed_in bytes other = ap has_no_feed (sym (take_all (length bytes) bytes (omega arith))) ∙
    none_before bytes (length bytes) (omega arith) other

-- ---- a line as it is kept

pub kept_dropped : (own : List ℕ) (dropped : Bool) → dropped ≡ true
    → cond dropped Dropped (Kept own) ≡ Dropped
kept_dropped own dropped is = ap (λ (b : Bool). cond b Dropped (Kept own)) is

pub kept_whole : (own : List ℕ) (dropped : Bool) → dropped ≡ false
    → cond dropped Dropped (Kept own) ≡ Kept own
kept_whole own dropped is = ap (λ (b : Bool). cond b Dropped (Kept own)) is
