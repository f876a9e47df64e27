use Rattle.line_devices.proofs.OutputLemmas.{IsOut}
use Rattle.line_fields.specs.Texts.{record_text}
use Rattle.line_claims.specs.Records.{line_record}
use Rattle.line_claims.proofs.WriteLemmas.{choices_behind}
use Rattle.line_claims.proofs.judgements.put_line.Given as goal

abbrev pub invariant-loop-i : goal.invariant-loop-i
invariant-loop-i g l = IsOut (g.K.Sink.taken l.fn.sink) (g.K.Sink.taken l.sink)
    (g.K.Sink.faults l.fn.sink) (g.K.Sink.faults l.sink) l.fn.writer l.writer
    (record_text (line_record l.line)) (choices_behind l.line l.i)
