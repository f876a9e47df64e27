-- The versions of texts, and how many processes a text of each may have.
use Rattle.std.specs.Prelude.{ℕ, ◌≤◌, nat_le, ◌==◌, if◌then◌else◌}
use Rattle.line_names.specs.declared.limits.TheConstants.{MOST_PROCESSES}
use Rattle.line_claims.specs.declared.versions.TheConstants.{LAST_VERSION, LAST_CHECK_VERSION}
use Rattle.line_claims.specs.declared.versions.TheConstants.{MOST_IN_FIRST_VERSION}

-- the versions of scripts
abbrev pub IsVersion : ℕ → Type 0
IsVersion version = (1 ≤ version) × (version ≤ LAST_VERSION)

-- the versions of histories and of check texts
abbrev pub IsCheckVersion : ℕ → Type 0
IsCheckVersion version = (1 ≤ version) × (version ≤ LAST_CHECK_VERSION)

-- the greatest number of processes that a text of a version may have
unfoldable pub most_in : ℕ → ℕ
most_in version = if version == 1 then MOST_IN_FIRST_VERSION else MOST_PROCESSES

-- how many processes a claim of a version among n says of where they go on: all, from version 3 on
abbrev pub starts_in : ℕ → ℕ → ℕ
starts_in version n = if nat_le 3 version then n else 0

-- of how many processes a history of a version among n says what was let go: of all, from version 4
-- on
abbrev pub floors_in : ℕ → ℕ → ℕ
floors_in version n = if nat_le 4 version then n else 0

-- the earliest version whose texts may have so many processes
unfoldable pub earliest_version : ℕ → ℕ
earliest_version n = if nat_le n MOST_IN_FIRST_VERSION then 1 else 2
