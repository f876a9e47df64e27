use Rattle.std.specs.Prelude.{map}
use Rattle.line_devices.proofs.OutputLemmas.{IsOut}
use Rattle.line_fields.specs.Texts.{records_text}
use Rattle.line_claims.specs.Records.{damage_record, damaged_checks}
use Rattle.line_claims.proofs.PartLemmas.{damages_behind}
use Rattle.line_claims.proofs.marks.put_damages_of.Given as goal

abbrev pub invariant-loop-before : goal.invariant-loop-before
invariant-loop-before g l = IsOut (g.K.Sink.taken l.fn.sink) (g.K.Sink.taken l.sink)
    (g.K.Sink.faults l.fn.sink) (g.K.Sink.faults l.sink) l.fn.writer l.writer
    (records_text (map (damage_record l.p) (damaged_checks l.marks l.p l.last)))
    (damages_behind l.marks l.p l.last l.before)
