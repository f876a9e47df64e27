use Rattle.std.proofs.Common.{◌≡◌, ◌<◌, ℕ, get_or}
use Rattle.line_catalogue.proofs.rows.go_back.Given as goal

-- the first starts are those that were told
abbrev pub invariant-loop-k : goal.invariant-loop-k
invariant-loop-k l = record {
  copied : (j : ℕ) → j < l.k → get_or l.starts j 0 ≡ get_or l.told j 0;
}
