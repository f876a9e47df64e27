use Rattle.std.proofs.Common.{◌≡◌, ◌*◌, ◌/◌, ◌≤◌, length}
use Rattle.line_vectors.specs.declared.parts.TheConstants.{PART}
use Rattle.line_vectors.specs.Parts.{part_count}
use Rattle.line_vectors.specs.Vectors.{FitsBefore}
use Rattle.line_vectors.proofs.reaches.ReachRef.first_beyond_from.Given as goal

-- no lane of the first parts is over its count
abbrev pub invariant-loop-k : goal.invariant-loop-k
invariant-loop-k l = record {
  from : l.from / PART ≤ l.k;
  parts : l.k-end ≡ part_count (length l.self);
  none : FitsBefore l.self l.sent (l.k * PART);
}
