use Rattle.std.proofs.Common.{◌≡◌, ◌<◌, ℕ, length, get_or}
use Rattle.line_vectors.proofs.reaches.Reach.set_to_lent.Given as goal

-- the first lanes are those of the other vector
abbrev pub invariant-loop-q : goal.invariant-loop-q
invariant-loop-q l = record {
  long : length l.self-inside.lanes.items ≡ length l.other;
  taken : (p : ℕ) → p < l.q → get_or l.self-inside.lanes.items p 0 ≡ get_or l.other p 0;
}
