use Rattle.line_devices.proofs.OutputLemmas.{IsOut}
use Rattle.line_fields.specs.Texts.{record_text}
use Rattle.line_claims.specs.Saved.{saved_round_record}
use Rattle.line_claims.proofs.SavedWriteLemmas.{checks_behind}
use Rattle.line_claims.proofs.saved_writers.put_saved_round.Given as goal

abbrev pub invariant-loop-i : goal.invariant-loop-i
invariant-loop-i g l = IsOut (g.K.Sink.taken l.fn.sink) (g.K.Sink.taken l.sink)
    (g.K.Sink.faults l.fn.sink) (g.K.Sink.faults l.sink) l.fn.writer l.writer
    (record_text (saved_round_record l.number l.checks)) (checks_behind l.checks l.i)
