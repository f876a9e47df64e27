-- What the kernels know of the lanes from one place to another; no promise of theirs rests on it.
use Rattle.std.specs.Prelude.{◌≡◌, ◌≤◌, ◌<◌, ℕ, List, max, length, slice_index, map}
use Rattle.std.specs.Simd.Lanes.{chunk, mask_l}
use Rattle.line_vectors.specs.Lanes.{overs}

-- a word whose bit k tells, for eight lanes, whether the first list is over the second in the lane
-- k places past the start
abbrev pub over_bits_of : List ℕ → List ℕ → ℕ → ℕ
over_bits_of a b at = mask_l (map (λ over. over) (chunk at 8 (overs a b)))

-- from one lane up to another the new list has the greater of both, and elsewhere what the old one
-- has
pub record HasGreaterOn (old new b : List ℕ) (from to : ℕ) : Type 0 where
  pub len : length new ≡ length old
  pub inside : (k : ℕ) → from ≤ k → k < to
      → slice_index new k ≡ max (slice_index old k) (slice_index b k)
  pub below : (k : ℕ) → k < from → slice_index new k ≡ slice_index old k
  pub above : (k : ℕ) → to ≤ k → slice_index new k ≡ slice_index old k
