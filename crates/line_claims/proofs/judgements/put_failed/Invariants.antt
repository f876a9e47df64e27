use Rattle.line_devices.proofs.OutputLemmas.{IsOut}
use Rattle.line_fields.specs.Texts.{record_text}
use Rattle.line_claims.specs.Records.{failed_record}
use Rattle.line_claims.proofs.WriteLemmas.{members_behind}
use Rattle.line_claims.proofs.judgements.put_failed.Given as goal

abbrev pub invariant-loop-value : goal.invariant-loop-value
invariant-loop-value g l = IsOut (g.K.Sink.taken l.fn.sink) (g.K.Sink.taken l.sink)
    (g.K.Sink.faults l.fn.sink) (g.K.Sink.faults l.sink) l.fn.writer l.writer
    (record_text (failed_record l.n l.failed)) (members_behind l.failed l.n l.value)
