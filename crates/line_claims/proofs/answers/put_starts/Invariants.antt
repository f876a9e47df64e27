use Rattle.std.proofs.Common.{drop, length}
use Rattle.std.specs.Prelude.{map}
use Rattle.std.specs.List.{range_with_len}
use Rattle.line_check.specs.Answers.{start_due, starts_due}
use Rattle.line_devices.proofs.OutputLemmas.{IsOut}
use Rattle.line_fields.specs.Texts.{records_text}
use Rattle.line_claims.specs.Records.{starts_records}
use Rattle.line_claims.proofs.answers.put_starts.Given as goal

abbrev pub invariant-loop-value : goal.invariant-loop-value
invariant-loop-value g l =
    IsOut (g.K.Sink.taken l.fn.sink) (g.K.Sink.taken l.sink) (g.K.Sink.faults l.fn.sink)
    (g.K.Sink.faults l.sink) l.fn.writer l.writer
    (records_text (starts_records 0 (starts_due l.history.processes l.line)))
    (records_text (starts_records l.value (drop l.value (map (start_due l.history.processes l.line)
    (range_with_len 0 (length l.history.processes))))))
