use Rattle.std.proofs.Common.{◌≡◌, ◌<◌, ◌≤◌, ◌+◌, ◌-◌, ◌^◌, [], length}
use Rattle.line_claims.specs.Stages.{floors_left}
use Rattle.line_claims.proofs.texts.take_floors.Given as goal

abbrev pub invariant-floors : goal.invariant-floors
invariant-floors l = record {
  few : (length l.floors.items ≤ l.count);
  room : (l.number + length l.records < 2 ^ 64);
  same : (floors_left (l.count - length l.floors.items) l.floors.items l.number l.records
      ≡ floors_left l.count [] 2 l.fn.records);
}

abbrev pub decreases-floors : goal.decreases-floors
decreases-floors l = length l.records
