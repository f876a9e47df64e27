use Rattle.std.proofs.Common.{◌≡◌, ◌<◌, ◌≤◌, ◌+◌, ◌^◌, length}
use Rattle.line_claims.specs.Saved.{saved_alone}
use Rattle.line_claims.specs.SavedReadings.{saved_left}
use Rattle.line_claims.proofs.saved_texts.take_left.Given as goal

abbrev pub invariant-records : goal.invariant-records
invariant-records l = record {
  some : (2 ≤ l.number);
  room : (l.number + length l.records < 2 ^ 64);
  same : (saved_alone (saved_left l.fn.reader 2 l.fn.records)
      ≡ saved_alone (saved_left l.reader l.number l.records));
}

abbrev pub decreases-records : goal.decreases-records
decreases-records l = length l.records
