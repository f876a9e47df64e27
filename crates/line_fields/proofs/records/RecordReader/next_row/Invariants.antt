use Rattle.std.proofs.Common.{◌≡◌, length, true}
use Rattle.line_fields.specs.Bytes.{is_input_text}
use Rattle.line_fields.specs.Records.{records_of_text}
use Rattle.line_fields.proofs.records.RecordReader.next_row.Given as goal

abbrev pub invariant-loop-rest : goal.invariant-loop-rest
invariant-loop-rest l = record {
  input : is_input_text l.rest ≡ true;
  same : records_of_text l.rest
      ≡ records_of_text l.self-inside.rest.now;
}

abbrev pub decreases-loop-rest : goal.decreases-loop-rest
decreases-loop-rest l = length l.rest
