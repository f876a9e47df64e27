-- Sets of processes, as a truth value for each.
use Rattle.std.specs.Prelude.{ℕ, Bool, true, false, List, replicate, slice_index_or, slice_set}
use Rattle.line_names.specs.declared.limits.TheConstants.{MOST_PROCESSES}

-- the set that has no process
abbrev pub nobody : List Bool
nobody = replicate MOST_PROCESSES false

-- the set and process p
abbrev pub with_member : List Bool → ℕ → List Bool
with_member set p = slice_set set p true

-- process p is in the set
abbrev pub is_member : List Bool → ℕ → Bool
is_member set p = slice_index_or set p false
