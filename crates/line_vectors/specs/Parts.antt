-- Vectors whose lanes stand in parts among others.
use Rattle.std.specs.Prelude.{ℕ, ◌+◌, ◌-◌, ◌*◌, ◌/◌, ◌%◌, ◌<◌, ◌≤◌, List, length, map}
use Rattle.std.specs.Prelude.{slice_index}
use Rattle.std.specs.List.{range_with_len}
use Rattle.line_vectors.specs.declared.parts.TheConstants.{PART}

-- how many parts n lanes have
abbrev pub part_count : ℕ → ℕ
part_count n = (n + (PART - 1)) / PART

-- where the lane of process p stands, if the parts begin there
abbrev pub place_in_parts : List ℕ → ℕ → ℕ
place_in_parts starts p = slice_index starts (p / PART) + p % PART

-- the lane of process p, if the parts begin there among these lanes
abbrev pub lane_in_parts : List ℕ → List ℕ → ℕ → ℕ
lane_in_parts starts lanes p = slice_index lanes (place_in_parts starts p)

-- the vector of n lanes whose parts begin there among these lanes
abbrev pub parted : ℕ → List ℕ → List ℕ → List ℕ
parted n starts lanes = map (lane_in_parts starts lanes) (range_with_len 0 n)

-- there is a start for each part of n lanes, and each part stands among so many lanes
pub record ArePartsAmong (n : ℕ) (starts : List ℕ) (len : ℕ) : Type 0 where
  pub enough : n ≤ length starts * PART
  pub within : (p : ℕ) → p < n → place_in_parts starts p < len
