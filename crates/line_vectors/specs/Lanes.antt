-- Two lists of numbers compared lane by lane.
use Rattle.std.specs.Prelude.{◌≤◌, ◌<◌, ℕ, List, Bool, nat_lt, max, length, slice_index, count_by}
use Rattle.std.specs.Simd.Lanes.{zip2}

-- the greater of both, lane by lane
abbrev pub greater_of : List ℕ → List ℕ → List ℕ
greater_of = zip2 max

-- lane by lane, whether the first list is over the second
abbrev pub overs : List ℕ → List ℕ → List Bool
overs = zip2 (λ x y. nat_lt y x)

-- in no lane before n the first list is over the second
abbrev pub HasNoneOverBefore : List ℕ → List ℕ → ℕ → Type 0
HasNoneOverBefore a b n = (i : ℕ) → i < n → slice_index a i ≤ slice_index b i

-- in no lane the first list is over the second
abbrev pub HasNoneOver : List ℕ → List ℕ → Type 0
HasNoneOver a b = HasNoneOverBefore a b (length a)

-- the first lane where the first list is over the second
pub record IsFirstOver (a b : List ℕ) (i : ℕ) : Type 0 where
  pub within : i < length a
  pub over : slice_index b i < slice_index a i
  pub none_before : HasNoneOverBefore a b i

-- in how many lanes the first list is over the second
abbrev pub over_count : List ℕ → List ℕ → ℕ
over_count a b = count_by (λ over. over) (overs a b)
