use Rattle.std.proofs.Common.{drop, length}
use Rattle.std.specs.Prelude.{map}
use Rattle.std.specs.List.{range_with_len}
use Rattle.line_devices.proofs.OutputLemmas.{IsOut}
use Rattle.line_fields.specs.Texts.{records_text}
use Rattle.line_collect.specs.LiveAnswers.{live_going_on_record, live_going_on_records}
use Rattle.line_collect.proofs.plan_records.put_all_going_on.Given as goal

abbrev pub invariant-loop-p : goal.invariant-loop-p
invariant-loop-p g l =
    IsOut (g.K.Sink.taken l.fn.sink) (g.K.Sink.taken l.sink) (g.K.Sink.faults l.fn.sink)
    (g.K.Sink.faults l.sink) l.fn.writer l.writer
    (records_text (live_going_on_records l.live l.line))
    (records_text (map (live_going_on_record l.live l.line)
    (drop l.p (range_with_len 0 (length l.live.kept.history)))))
