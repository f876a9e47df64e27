use Rattle.std.proofs.Common.{◌≡◌, ◌<◌, ℕ}
use Rattle.line_catalogue.specs.Left.{start_at}
use Rattle.line_catalogue.proofs.candidates.are_none.Given as goal

abbrev pub invariant-loop-end : goal.invariant-loop-end
invariant-loop-end l = (p : ℕ) → p < l.end-index → start_at l.ends p ≡ 0
