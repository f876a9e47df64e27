-- Vectors: a number for each process, as a list of lanes.
use Rattle.std.specs.Prelude.{ℕ, ◌+◌, ◌<◌, ◌≤◌, max, List, length, slice_index, slice_set}
use Rattle.line_names.specs.declared.messages.MsgName.{MsgName}

-- the lanes once a message is noted: the lane of its sender is past its number
abbrev pub lanes_with_message : List ℕ → MsgName → List ℕ
lanes_with_message lanes message =
    slice_set lanes message.from (max (slice_index lanes message.from) (message.number + 1))

-- no lane is over its process's count
abbrev pub Fits : List ℕ → List ℕ → Type 0
Fits lanes counts = (p : ℕ) → p < length lanes → slice_index lanes p ≤ slice_index counts p

-- of the first k lanes none is over its process's count
abbrev pub FitsBefore : List ℕ → List ℕ → ℕ → Type 0
FitsBefore lanes counts k = (p : ℕ) → p < k → slice_index lanes p ≤ slice_index counts p

-- the first process whose lane is over its count
pub record IsFirstBeyond (lanes counts : List ℕ) (p : ℕ) : Type 0 where
  pub within : p < length lanes
  pub beyond : slice_index counts p < slice_index lanes p
  pub none_before : (q : ℕ) → q < p → slice_index lanes q ≤ slice_index counts q
