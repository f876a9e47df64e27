use Rattle.std.proofs.Common.{drop, length}
use Rattle.std.specs.Prelude.{map}
use Rattle.std.specs.List.{range_with_len}
use Rattle.line_devices.proofs.OutputLemmas.{IsOut}
use Rattle.line_fields.specs.Texts.{records_text}
use Rattle.line_claims.specs.Records.{damaged_of, damages_records, in_order}
use Rattle.line_claims.proofs.marks.put_damages.Given as goal

abbrev pub invariant-loop-value : goal.invariant-loop-value
invariant-loop-value g l =
    IsOut (g.K.Sink.taken l.fn.sink) (g.K.Sink.taken l.sink) (g.K.Sink.faults l.fn.sink)
    (g.K.Sink.faults l.sink) l.fn.writer l.writer
    (records_text (damages_records 0 (in_order l.history.processes l.marks).damaged))
    (records_text (damages_records l.value (drop l.value (map
    (damaged_of l.history.processes l.marks) (range_with_len 0 (length l.history.processes))))))
