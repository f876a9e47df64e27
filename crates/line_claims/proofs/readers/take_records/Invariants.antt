use Rattle.std.proofs.Common.{◌≡◌, ◌<◌, ◌+◌, ◌^◌, ◌++◌, List, None, length}
use Rattle.std.specs.Prelude.{IfSome}
use Rattle.line_fields.specs.Records.{Record, records_of_text}
use Rattle.line_claims.specs.Readings.{IsBegun, left_of}
use Rattle.line_claims.proofs.readers.take_records.Given as goal

abbrev pub invariant-records : goal.invariant-records
invariant-records l = record {
  kept : IfSome l.begun IsBegun;
  first : (l.begun ≡ None → l.number ≡ 1);
  room : (l.number + length l.records < 2 ^ 64);
  same : ((rest : List Record) → left_of l.fn.begun l.fn.number (records_of_text l.piece ++ rest)
      ≡ left_of l.begun l.number (l.records ++ rest));
}

abbrev pub decreases-records : goal.decreases-records
decreases-records l = length l.records
