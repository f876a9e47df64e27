use Rattle.std.proofs.Common.{◌≡◌, ◌*◌, ◌≤◌, length, take}
use Rattle.line_vectors.specs.declared.parts.TheConstants.{PART}
use Rattle.line_vectors.specs.Lanes.{over_count}
use Rattle.line_vectors.specs.Parts.{part_count}
use Rattle.line_vectors.proofs.reaches.ReachRef.beyond.Given as goal

-- of the first parts the lanes are counted
abbrev pub invariant-loop-k : goal.invariant-loop-k
invariant-loop-k l = record {
  parts : l.k-end ≡ part_count (length l.self);
  few : l.total ≤ l.k * PART;
  counted : l.total ≡ over_count (take (l.k * PART) l.self) (take (l.k * PART) l.sent);
}
