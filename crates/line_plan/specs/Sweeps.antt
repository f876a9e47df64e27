-- In how many sweeps the entries of a certificate were made.
use Rattle.std.specs.Prelude.{◌≡◌, ℕ, suc, ◌<◌, ◌≤◌, ◌⊎◌, if◌then◌else◌, nat_lt}
use Rattle.std.specs.Prelude.{Bool, true, false, List, [], ◌∷◌}
use Rattle.line_names.specs.declared.certificates.Passed.{Passed}
use Rattle.line_names.specs.Sets.{is_member}

-- how often, after an entry of this process, an entry's process is below that of the entry before
abbrev pub descents : ℕ → List Passed → ℕ
descents last [] = 0
descents last (entry ∷ rest) =
    if nat_lt entry.at last
    then suc (descents entry.at rest)
    else descents entry.at rest

-- how many sweeps made the entries: a sweep visits the processes in the order of their numbers, so
-- where the process of an entry is below that of the entry before, another sweep has begun
abbrev pub sweeps_with_entries : List Passed → ℕ
sweeps_with_entries [] = 0
sweeps_with_entries (first ∷ rest) = suc (descents first.at rest)

-- the process of the last of these entries, after an entry of this process
abbrev pub last_after : ℕ → List Passed → ℕ
last_after last [] = last
last_after last (entry ∷ rest) = last_after entry.at rest

-- the process of the last entry
abbrev pub last_passed : List Passed → ℕ
last_passed [] = 0
last_passed (first ∷ rest) = last_after first.at rest

-- an entry of process p would be of another sweep than these entries
abbrev pub IsOfNextSweep : List Passed → ℕ → Type 0
IsOfNextSweep entries p = (entries ≡ []) ⊎ (p < last_passed entries)

-- the visit of process p left the entries as they were, or added some of its own
pub record HasPassed (p : ℕ) (lowered : Bool) (old new : List Passed) : Type 0 where
  pub same : lowered ≡ false → new ≡ old
  pub begins : lowered ≡ true → IsOfNextSweep old p
      → sweeps_with_entries new ≡ suc (sweeps_with_entries old)
  pub goes_on : lowered ≡ true → 1 ≤ sweeps_with_entries old → last_passed old ≤ p
      → sweeps_with_entries new ≡ sweeps_with_entries old
  pub last : lowered ≡ true → last_passed new ≡ p

-- where a process among n is to be visited, it is one that an entry of would be of the next sweep
abbrev pub AreOfNextSweep : ℕ → List Passed → List Bool → Type 0
AreOfNextSweep n entries dirty =
    (q : ℕ) → q < n → is_member dirty q ≡ true → IsOfNextSweep entries q

-- a sweep that began with the entries `old` is about to visit process p of n: it has added none and
-- whoever is to be visited was so at its start, or its entries are of one sweep more, the last one
-- of a process before p
pub record IsSweeping (n : ℕ) (old : List Passed) (p : ℕ) (lowered : Bool)
    (entries : List Passed) (dirty : List Bool) : Type 0 where
  pub same : lowered ≡ false → entries ≡ old
  pub due : lowered ≡ false → AreOfNextSweep n old dirty
  pub swept : lowered ≡ true → sweeps_with_entries entries ≡ suc (sweeps_with_entries old)
  pub below : lowered ≡ true → last_passed entries < p
  pub left : lowered ≡ true → (q : ℕ) → q < n → is_member dirty q ≡ true
      → (q < last_passed entries) ⊎ (p ≤ q)
