use Rattle.std.proofs.Common.{drop, length}
use Rattle.std.specs.Prelude.{map}
use Rattle.std.specs.List.{range_with_len}
use Rattle.line_devices.proofs.OutputLemmas.{IsOut}
use Rattle.line_fields.specs.Texts.{records_text}
use Rattle.line_text.specs.Replies.{process_of, process_records}
use Rattle.line_text.proofs.replies.recoveries.put_lines.Given as goal

abbrev pub invariant-loop-p : goal.invariant-loop-p
invariant-loop-p g l =
    IsOut (g.K.Sink.taken l.fn.sink) (g.K.Sink.taken l.sink) (g.K.Sink.faults l.fn.sink)
    (g.K.Sink.faults l.sink) l.fn.writer l.writer
    (records_text (process_records l.choices l.incarnations l.states))
    (records_text (map (process_of l.choices l.incarnations l.states)
    (drop l.p (range_with_len 0 (length l.choices)))))
