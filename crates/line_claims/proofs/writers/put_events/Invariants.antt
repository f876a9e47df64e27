use Rattle.std.proofs.Common.{drop, take}
use Rattle.std.specs.Prelude.{map}
use Rattle.std.specs.List.{AllByRecursion}
use Rattle.line_devices.proofs.OutputLemmas.{IsOut}
use Rattle.line_fields.specs.Texts.{records_text}
use Rattle.line_claims.specs.Ranges.{FitsWords}
use Rattle.line_claims.specs.Records.{event_record}
use Rattle.line_claims.proofs.writers.put_events.Given as goal

abbrev pub invariant-loop-i : goal.invariant-loop-i
invariant-loop-i g l = record {
  part : IsOut (g.K.Sink.taken l.fn.sink) (g.K.Sink.taken l.sink) (g.K.Sink.faults l.fn.sink)
      (g.K.Sink.faults l.sink) l.fn.writer l.writer (records_text (map event_record l.events))
      (records_text (map event_record (drop l.i l.events)));
  fits : AllByRecursion FitsWords (take l.i l.events);
}
