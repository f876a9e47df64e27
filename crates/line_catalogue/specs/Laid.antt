-- How the rows of a process are kept: each says where among the lanes of all vectors it is told
-- where the parts of its own vector begin.
use Rattle.std.specs.Prelude.{◌≡◌, ◌≢◌, ℕ, ◌+◌, ◌-◌, ◌*◌, ◌/◌, ◌<◌, ◌≤◌, Bool, false, List, drop}
use Rattle.std.specs.Prelude.{length, slice_index, slice_index_or, take}
use Rattle.line_vectors.specs.declared.parts.TheConstants.{PART}
use Rattle.line_vectors.specs.Parts.{lane_in_parts, parted, part_count, place_in_parts}
use Rattle.line_catalogue.specs.declared.kept_rows.KeptRow.{KeptRow}
use Rattle.line_catalogue.specs.declared.kept_rows.Row.{Row}
use Rattle.line_catalogue.specs.declared.laid.TheConstants.{NOT_LAID}

-- what n lanes take among the lanes of all, if no part is shared: the lanes, and where each part
-- begins
abbrev pub width_of : ℕ → ℕ
width_of n = n + part_count n

-- where the parts of a vector of n lanes begin, as it is told after so many lanes
abbrev pub starts_at : ℕ → List ℕ → ℕ → List ℕ
starts_at n lanes start = take (part_count n) (drop start lanes)

-- the vector of n lanes of which that is told after so many lanes
abbrev pub vector_after : ℕ → List ℕ → ℕ → List ℕ
vector_after n lanes start = parted n (starts_at n lanes start) lanes

-- the row that is kept so, with its vector of n lanes from among these
abbrev pub row_of : ℕ → List ℕ → KeptRow → Row
row_of n lanes row =
    record {
      place = row.place;
      sends = row.sends;
      damaged = row.damaged;
      reach = vector_after n lanes row.start;
    }

-- where the parts of n lanes begin is told after so many lanes, and the parts stand before that
pub record IsAmong (n : ℕ) (lanes : List ℕ) (start : ℕ) : Type 0 where
  pub told : start + part_count n ≤ length lanes
  pub before : (p : ℕ) → p < n → place_in_parts (starts_at n lanes start) p < start

-- the vector of each row, of n lanes, stands among these lanes
abbrev pub AreAmong : ℕ → List ℕ → List KeptRow → Type 0
AreAmong n lanes rows =
    (c : ℕ) (d : KeptRow) → c < length rows → IsAmong n lanes (slice_index_or rows c d).start

-- the last vector among the lanes is this one
pub record EndWith (lanes present : List ℕ) : Type 0 where
  pub among : IsAmong (length present) lanes (length lanes - part_count (length present))
  pub vector :
      vector_after (length present) lanes (length lanes - part_count (length present)) ≡ present

-- the parts that were not changed since they were laid begin there among the lanes
abbrev pub AreHeld : List ℕ → List ℕ → List ℕ → Type 0
AreHeld lanes starts present =
    (p : ℕ) → p < length present → slice_index starts (p / PART) ≢ NOT_LAID
    → (place_in_parts starts p < length lanes)
    × (lane_in_parts starts lanes p ≡ slice_index present p)

-- the vectors stand in the order of their rows, at most one for each, and the last is the present
-- one unless something was heard since
pub record AreLaid (lanes : List ℕ) (rows : List KeptRow) (heard : Bool) (starts : List ℕ)
    (present : List ℕ) : Type 0 where
  pub some : 0 < length present
  pub among : AreAmong (length present) lanes rows
  pub ordered : (k c : ℕ) (d : KeptRow) → k ≤ c → c < length rows
      → (slice_index_or rows k d).start ≤ (slice_index_or rows c d).start
  pub early : (c : ℕ) (d : KeptRow) → c < length rows
      → (slice_index_or rows c d).start + part_count (length present)
      ≤ (c + 1) * width_of (length present)
  pub few : length lanes ≤ length rows * width_of (length present)
  pub held : AreHeld lanes starts present
  pub last : heard ≡ false → EndWith lanes present

-- there are so many further places for rows, and lanes for as many vectors of that width
pub record HaveRowRoom (room places lanes width : ℕ) : Type 0 where
  pub rows_fit : room ≤ places
  pub vectors_fit : room * width ≤ lanes
