-- Sets of processes by the bits that they are kept in.
use Rattle.std.proofs.Common.{◌≡◌, ◌≢◌, ◌↔◌, ℕ, zero, suc, ◌+◌, ◌-◌, ◌*◌, ◌/◌, ◌%◌, ◌^◌, ◌<◌, ◌≤◌}
use Rattle.std.proofs.Common.{Bool, true, false, List, [], ◌∷◌, length, take, drop, get_or, set}
use Rattle.std.proofs.Common.{refl, sym, ap, ◌∙◌, subst, arith, inl, inr, bit_or, w64}
use Rattle.std.specs.Prelude.{◌==◌, IsTrue, if◌then◌else◌}
use Rattle.std.specs.Int.{bit_at}
use Rattle.std.proofs.lemmas.Bool.{cases_eq, cases_lt, false≢true}
use Rattle.std.proofs.lemmas.List.{same_lists, length-replicate, get_or-replicate, get_or-set_same}
use Rattle.std.proofs.lemmas.List.{get_or-set_other, length-set, get_or-take, get_or-drop}
use Rattle.std.proofs.lemmas.List.{length-take, get_or_past, get_or_default}
use Rattle.std.proofs.lemmas.List.FromFn.{get_or-map-range_with_len, length-map-range_with_len}
use Rattle.std.proofs.lemmas.Nat.{or_lt, shr-shr, shr_le}
use Rattle.std.proofs.lemmas.Nat.Bits.{bit_at-lt, bit_at-zero, bit_at-suc, bit_at_lowest}
use Rattle.std.proofs.lemmas.Nat.Bits.{bit_at_set_same, bit_at_set_other, bit_at_above}
use Rattle.std.proofs.lemmas.Nat.Bits.{same_from_bits_below}
use Rattle.line_names.specs.declared.limits.TheConstants.{MOST_PROCESSES}
use Rattle.line_names.specs.declared.processes.TheConstants.{WORDS}
use Rattle.line_names.specs.Bits.{has_bit, members_of, number_of, words_of}
use Rattle.line_names.specs.Sets.{is_member, nobody, with_member}

pub many_members : (words : List ℕ) → length (members_of words) ≡ MOST_PROCESSES
unfolding members_of
many_members words = length-map-range_with_len (has_bit words) 0 MOST_PROCESSES

member_at : (words : List ℕ) (p : ℕ) (d : Bool) → p < MOST_PROCESSES
    → get_or (members_of words) p d ≡ has_bit words p
unfolding members_of
member_at words p d low =
    get_or-map-range_with_len (has_bit words) 0 MOST_PROCESSES p p d low (omega arith)

-- a process is a member where its bit is set
pub is_member_at : (words : List ℕ) (p : ℕ) → p < MOST_PROCESSES
    → is_member (members_of words) p ≡ has_bit words p
is_member_at words p low = member_at words p false low

pub no_member_past : (words : List ℕ) (p : ℕ) → MOST_PROCESSES ≤ p
    → is_member (members_of words) p ≡ false
no_member_past words p high =
    get_or_past (members_of words) p false (omega (arith, many_members words))

-- words without a bit are the set that has no process
pub members_of_none : (words : List ℕ) → ((k : ℕ) → get_or words k 0 ≡ 0)
    → members_of words ≡ nobody
members_of_none words none = same_lists (members_of words) nobody
    (many_members words ∙ sym (length-replicate MOST_PROCESSES false)) (λ k d low.
    let below : k < MOST_PROCESSES = omega (arith, many_members words) in
    let zero_bit : bit_at (get_or words (k / 64) 0) (k % 64)
    ≡ 0 = ap (λ w. bit_at w (k % 64)) (none (k / 64)) ∙ bit_at-zero (k % 64) in
    let bit : has_bit words k ≡ false = ap (λ b. b == 1) zero_bit in
    member_at words k d below ∙ bit ∙ sym (get_or-replicate MOST_PROCESSES k false d below))

-- a word with one bit more
abbrev pub with_bit : List ℕ → ℕ → List ℕ
with_bit words p = set words (p / 64) (bit_or (get_or words (p / 64) 0) (1 * 2 ^ (p % 64) % 2 ^ 64))

other_bit : (words : List ℕ) (p q : ℕ) → length words ≡ WORDS → p < MOST_PROCESSES → q ≢ p
    → has_bit (with_bit words p) q ≡ has_bit words q
other_bit words p q many low other = elim (cases_eq (q / 64) (p / 64)) [
  | inr ne ↦ ap (λ w. bit_at w (q % 64) == 1) (get_or-set_other words (p / 64) (q / 64) _ 0 ne)
  | inl e ↦
      let ne : q % 64 ≢ p % 64 = λ same. other (omega arith) in
      let new : get_or (with_bit words p) (q / 64) 0
      ≡ bit_or (get_or words (p / 64) 0) (1 * 2 ^ (p % 64) % 2 ^ 64) =
      ap (λ k. get_or (with_bit words p) k 0) e ∙ get_or-set_same words (p / 64) _ 0
      (omega arith) in
      let old : get_or words (q / 64) 0 ≡ get_or words (p / 64) 0 = ap (λ k. get_or words k 0) e in
      ap (λ w. bit_at w (q % 64) == 1) new ∙ ap (λ b. b == 1)
      (bit_at_set_other w64 (get_or words (p / 64) 0) (p % 64) (omega arith) (q % 64) ne)
      ∙ ap (λ w. bit_at w (q % 64) == 1) (sym old)
]

same_bit : (words : List ℕ) (p : ℕ) → length words ≡ WORDS → p < MOST_PROCESSES
    → has_bit (with_bit words p) p ≡ true
same_bit words p many low =
    ap (λ w. bit_at w (p % 64) == 1) (get_or-set_same words (p / 64) _ 0 (omega arith)) ∙ ap
    (λ b. b == 1) (bit_at_set_same w64 (get_or words (p / 64) 0) (p % 64) (omega arith))

-- a word with one bit more is the set with one process more
pub members_of_more : (words : List ℕ) (p : ℕ) → length words ≡ WORDS → p < MOST_PROCESSES
    → members_of (with_bit words p) ≡ with_member (members_of words) p
members_of_more words p many low =
    same_lists (members_of (with_bit words p)) (set (members_of words) p true)
    (many_members (with_bit words p) ∙ sym (many_members words) ∙ sym
    (length-set (members_of words) p true)) (λ k d l.
    let below : k < MOST_PROCESSES = omega (arith, many_members (with_bit words p)) in
    elim (cases_eq k p) [
      | inl e ↦
          let here : get_or (members_of (with_bit words p)) k d ≡ true = member_at (with_bit words
          p) k d below ∙ ap (has_bit (with_bit words p)) e ∙ same_bit words p many low in
          here ∙ sym (ap (λ i. get_or (set (members_of words) p true) i d) e ∙ get_or-set_same
          (members_of words) p true d (omega (arith, many_members words)))
      | inr ne ↦
          member_at (with_bit words p) k d below ∙ other_bit words p k many low ne ∙ sym
          (member_at words k d below)
          ∙ sym (get_or-set_other (members_of words) p k true d ne)
    ])

-- the bits of a number that is told by its bits
bit_of_number : (bits : List Bool) (i : ℕ)
    → bit_at (number_of bits) i ≡ (if get_or bits i false then 1 else 0)
bit_of_number [] i = bit_at-zero i
bit_of_number (true ∷ bits) zero = bit_at_lowest (1 + 2 * number_of bits) ∙ omega arith
bit_of_number (false ∷ bits) zero = bit_at_lowest (0 + 2 * number_of bits) ∙ omega arith
bit_of_number (true ∷ bits) (suc i) =
    let half : (1 + 2 * number_of bits) / 2 ≡ number_of bits = omega arith in
    bit_at-suc (1 + 2 * number_of bits) i ∙ ap (λ n. bit_at n i) half ∙ bit_of_number bits i
bit_of_number (false ∷ bits) (suc i) =
    let half : (0 + 2 * number_of bits) / 2 ≡ number_of bits = omega arith in
    bit_at-suc (0 + 2 * number_of bits) i ∙ ap (λ n. bit_at n i) half ∙ bit_of_number bits i

number_below : (bits : List Bool) (w : ℕ) → length bits ≤ w → number_of bits < 2 ^ w
number_below [] w few = pow_some w
  where
    pow_some : (w : ℕ) → 0 < 2 ^ w
    pow_some zero = omega arith
    pow_some (suc w) = let some : 0 < 2 ^ w = pow_some w in omega arith
number_below (bit ∷ bits) zero few = absurd (omega arith)
number_below (true ∷ bits) (suc w) few =
    let low : number_of bits < 2 ^ w = number_below bits w (omega arith) in omega arith
number_below (false ∷ bits) (suc w) few =
    let low : number_of bits < 2 ^ w = number_below bits w (omega arith) in omega arith

many_words : (n : ℕ) (members : List Bool) → length (words_of n members) ≡ n
unfolding words_of
many_words zero members = refl
many_words (suc n) members = ap suc (many_words n (drop 64 members))

-- each word is told by its bits
record IsWord (n : ℕ) (members : List Bool) (k d : ℕ) : Type 0 where
  bits : List Bool
  told : get_or (words_of n members) k d ≡ number_of bits
  few : length bits ≤ 64
  each : (i : ℕ) → i < 64 → get_or bits i false ≡ get_or members (64 * k + i) false

word_at : (n : ℕ) (members : List Bool) (k : ℕ) (d : ℕ) → k < n → IsWord n members k d
unfolding words_of
word_at zero members k d low = absurd (omega arith)
word_at (suc n) members zero d low =
    record {
      bits = take 64 members;
      told = refl;
      few = omega (arith, length-take 64 members);
      each = λ i l.
          let place : i ≡ 64 * 0 + i = omega arith in
          get_or-take 64 members i false l ∙ ap (λ j. get_or members j false) place;
    }
word_at (suc n) members (suc k) d low =
    let next : IsWord n (drop 64 members) k d = word_at n (drop 64 members) k d (omega arith) in
    record {
      bits = next.bits;
      told = next.told;
      few = next.few;
      each = λ i l.
          let place : 64 + (64 * k + i) ≡ 64 * suc k + i = omega arith in
          next.each i l ∙ get_or-drop 64 members (64 * k + i) false ∙ ap
          (λ j. get_or members j false) place;
    }

bit_back : (b : ℕ) → b < 2 → (if b == 1 then 1 else 0) ≡ b
bit_back zero low = refl
bit_back (suc zero) low = refl
bit_back (suc (suc b)) low = absurd (omega arith)

-- words are told again by the members of their set
pub words_again : (words : List ℕ) → length words ≡ WORDS → ((k : ℕ) → get_or words k 0 < 2 ^ 64)
    → words_of WORDS (members_of words) ≡ words
words_again words many fit = same_lists (words_of WORDS (members_of words)) words
    (many_words WORDS (members_of words) ∙ sym many) (λ k d l.
    let low : k < WORDS = omega (arith, many_words WORDS (members_of words)) in
    let word : IsWord WORDS (members_of words) k d = word_at WORDS (members_of words) k d low in
    let same : number_of word.bits ≡ get_or words k 0 =
    same_from_bits_below 64 (number_of word.bits) (get_or words k 0)
    (number_below word.bits 64 word.few) (fit k) (λ i li.
    let place : 64 * k + i < MOST_PROCESSES = omega arith in
    let k_is : (64 * k + i) / 64 ≡ k = omega arith in
    let i_is : (64 * k + i) % 64 ≡ i = omega arith in
    let bit : get_or word.bits i false ≡ (bit_at (get_or words k 0) i == 1) =
    word.each i li ∙ is_member_at words (64 * k + i) place
    ∙ ap (λ j. bit_at (get_or words j 0) ((64 * k + i) % 64) == 1) k_is ∙ ap
    (λ j. bit_at (get_or words k 0) j == 1) i_is in
    bit_of_number word.bits i ∙ ap (λ (b : Bool). if b then 1 else 0) bit ∙ bit_back
    (bit_at (get_or words k 0) i) (bit_at-lt (get_or words k 0) i)) in
    word.told ∙ same ∙ get_or_default words k 0 d (omega arith))

-- a word with one bit more is a word
pub word_fits : (words : List ℕ) (p k : ℕ) → length words ≡ WORDS → p < MOST_PROCESSES
    → ((k : ℕ) → get_or words k 0 < 2 ^ 64) → get_or (with_bit words p) k 0 < 2 ^ 64
word_fits words p k many low fit = elim (cases_eq k (p / 64)) [
  | inr ne ↦ subst (λ w. w < 2 ^ 64) (sym (get_or-set_other words (p / 64) k _ 0 ne)) (fit k)
  | inl e ↦
      let new : get_or (with_bit words p) k 0
      ≡ bit_or (get_or words (p / 64) 0) (1 * 2 ^ (p % 64) % 2 ^ 64) =
      ap (λ i. get_or (with_bit words p) i 0) e ∙ get_or-set_same words (p / 64) _ 0
      (omega arith) in
      subst (λ w. w < 2 ^ 64) (sym new) (or_lt 64 (get_or words (p / 64) 0)
      (1 * 2 ^ (p % 64) % 2 ^ 64) (fit (p / 64)) (omega arith))
]

-- a word has no bit from a place on exactly where it is 0 when it is shifted there
pub none_from : (word i : ℕ) → word < 2 ^ 64 → i < 64
    → (word / 2 ^ i ≡ 0) ↔ ((j : ℕ) → i ≤ j → j < 64 → bit_at word j ≡ 0)
none_from word i fit low = (
  λ none j le l.
      let step : i + (j - i) ≡ j = omega arith in
      let parts : word / 2 ^ j ≡ 0 = ap (λ k. word / 2 ^ k) (sym step) ∙ sym
      (shr-shr word i (j - i)) ∙ ap (λ n. n / 2 ^ (j - i)) none ∙ none_left (j - i) in
      ap (λ n. n % 2) parts,
  λ none.
      same_from_bits_below 64 (word / 2 ^ i) 0 (omega (arith, shr_le word i)) (omega arith) (λ k l.
      let there : bit_at (word / 2 ^ i) k
      ≡ bit_at word (i + k) = ap (λ n. n % 2) (shr-shr word i k) in
      elim (cases_lt (i + k) 64) [
        | inl g ↦ there ∙ none (i + k) (omega arith) g ∙ sym (bit_at-zero k)
        | inr g ↦ there ∙ bit_at_above word 64 (i + k) fit g ∙ sym (bit_at-zero k)
      ]),
)
  where
    none_left : (k : ℕ) → 0 / 2 ^ k ≡ 0
    none_left k = omega (arith, shr_le 0 k)

bit_of_false : (b : ℕ) → b < 2 → (IsTrue (b == 1) → ⊥) → b ≡ 0
bit_of_false zero low none = refl
bit_of_false (suc zero) low none = absurd (none refl)
bit_of_false (suc (suc b)) low none = absurd (omega arith)

-- where all members are below n, a word has no bit from there on
pub none_in_word : (words : List ℕ) (n k i j : ℕ) → k < WORDS → i ≡ n - k * 64
    → ((q : ℕ) → IsTrue (is_member (members_of words) q) → q < n)
    → i ≤ j → j < 64 → bit_at (get_or words k 0) j ≡ 0
none_in_word words n k i j low from all le l =
    let place : 64 * k + j < MOST_PROCESSES = omega arith in
    let k_is : (64 * k + j) / 64 ≡ k = omega arith in
    let j_is : (64 * k + j) % 64 ≡ j = omega arith in
    let bit : is_member (members_of words) (64 * k + j) ≡ (bit_at (get_or words k 0) j == 1) =
    is_member_at words (64 * k + j) place
    ∙ ap (λ h. bit_at (get_or words h 0) ((64 * k + j) % 64) == 1) k_is ∙ ap
    (λ h. bit_at (get_or words k 0) h == 1) j_is in
    bit_of_false (bit_at (get_or words k 0) j) (bit_at-lt (get_or words k 0) j) (λ there.
    let low : 64 * k + j < n = all (64 * k + j) (subst IsTrue (sym bit) there) in
    absurd (omega arith))

-- a member is a process that there may be, with its bit set
pub member_low : (words : List ℕ) (p : ℕ) → IsTrue (is_member (members_of words) p)
    → (p < MOST_PROCESSES) × IsTrue (has_bit words p)
member_low words p there = elim (cases_lt p MOST_PROCESSES) [
  | inl g ↦ (g, subst IsTrue (is_member_at words p g) there)
  | inr g ↦ absurd (false≢true (subst IsTrue (no_member_past words p g) there))
]
