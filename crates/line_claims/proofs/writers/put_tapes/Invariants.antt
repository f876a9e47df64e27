use Rattle.std.proofs.Common.{drop, take}
use Rattle.std.specs.List.{AllByRecursion}
use Rattle.line_devices.proofs.OutputLemmas.{IsOut}
use Rattle.line_fields.specs.Texts.{records_text}
use Rattle.line_claims.specs.Ranges.{FitsProcess}
use Rattle.line_claims.specs.Records.{tapes_records}
use Rattle.line_claims.proofs.writers.put_tapes.Given as goal

abbrev pub invariant-loop-p : goal.invariant-loop-p
invariant-loop-p g l = record {
  part : IsOut (g.K.Sink.taken l.fn.sink) (g.K.Sink.taken l.sink) (g.K.Sink.faults l.fn.sink)
      (g.K.Sink.faults l.sink) l.fn.writer l.writer (records_text (tapes_records 0
      l.history.processes)) (records_text (tapes_records l.p (drop l.p l.history.processes)));
  fits : AllByRecursion FitsProcess (take l.p l.history.processes);
}
