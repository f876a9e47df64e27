-- A later history of the same processes: what was there stays, and events come after it.
use Rattle.std.specs.Prelude.{◌≡◌, ℕ, List, length}
use mathlib.Core.List.{IsPrefix}
use Rattle.line_tape.specs.History.{Process, tape_at, incarnation_at}

-- the later history has the same incarnations, and each tape of the earlier one is a prefix of its
-- own
pub record Extends (later earlier : List Process) : Type 0 where
  pub count : length later ≡ length earlier
  pub incarnations : (p : ℕ) → incarnation_at later p ≡ incarnation_at earlier p
  pub tapes : (p : ℕ) → IsPrefix (tape_at earlier p) (tape_at later p)
