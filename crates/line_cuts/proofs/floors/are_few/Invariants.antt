use Rattle.std.proofs.Common.{◌<◌, ◌≤◌, ℕ, get_or}
use Rattle.line_cuts.proofs.floors.are_few.Given as goal

abbrev pub invariant-each : goal.invariant-each
invariant-each l = (p : ℕ) → p < l.number-index → get_or l.numbers.items p 0 ≤ l.most
