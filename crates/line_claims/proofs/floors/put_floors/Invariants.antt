use Rattle.std.proofs.Common.{drop}
use Rattle.line_devices.proofs.OutputLemmas.{IsOut}
use Rattle.line_fields.specs.Texts.{records_text}
use Rattle.line_claims.specs.Records.{floors_at, floors_records}
use Rattle.line_claims.proofs.floors.put_floors.Given as goal

abbrev pub invariant-loop-p : goal.invariant-loop-p
invariant-loop-p g l =
    IsOut (g.K.Sink.taken l.fn.sink) (g.K.Sink.taken l.sink) (g.K.Sink.faults l.fn.sink)
    (g.K.Sink.faults l.sink) l.fn.writer l.writer
    (records_text (floors_records 0 (floors_at l.n l.floor.checks.now l.floor.sends.now)))
    (records_text
    (floors_records l.p (drop l.p (floors_at l.n l.floor.checks.now l.floor.sends.now))))
