-- How a set of processes is kept: one bit for each process, 64 to a word. The sets that contracts
-- speak of are in Sets.
use Rattle.std.specs.Prelude.{◌≡◌, ℕ, zero, suc, ◌+◌, ◌*◌, ◌/◌, ◌%◌, ◌^◌, ◌<◌, ◌==◌, Bool}
use Rattle.std.specs.Prelude.{if◌then◌else◌, List, [], ◌∷◌, drop, length, map, slice_index_or, take}
use Rattle.std.specs.List.{range_with_len}
use Rattle.std.specs.Int.{bit_at}
use Rattle.line_names.specs.declared.limits.TheConstants.{MOST_PROCESSES}

-- the bit of process p is set
abbrev pub has_bit : List ℕ → ℕ → Bool
has_bit words p = bit_at (slice_index_or words (p / 64) 0) (p % 64) == 1

-- of each process whether its bit is set
unfoldable pub members_of : List ℕ → List Bool
members_of words = map (has_bit words) (range_with_len 0 MOST_PROCESSES)

-- the number with these bits, the lowest first
abbrev pub number_of : List Bool → ℕ
number_of [] = 0
number_of (bit ∷ bits) = (if bit then 1 else 0) + 2 * number_of bits

-- so many words with these bits
unfoldable pub words_of : ℕ → List Bool → List ℕ
words_of zero members = []
words_of (suc n) members = number_of (take 64 members) ∷ words_of n (drop 64 members)

-- so many words, each of 64 bits, which are told again by their bits
pub record AreWords (n : ℕ) (words : List ℕ) : Type 0 where
  pub many : length words ≡ n
  pub fit : (k : ℕ) → slice_index_or words k 0 < 2 ^ 64
  pub again : words_of n (members_of words) ≡ words
