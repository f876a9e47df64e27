use Rattle.std.proofs.Common.{drop}
use Rattle.line_text.proofs.SaveLemmas.{rest_text}
use Rattle.line_devices.proofs.OutputLemmas.{IsOut}
use Rattle.line_text.proofs.saves.put_saved_rest.Given as goal

abbrev pub invariant-loop-i : goal.invariant-loop-i
invariant-loop-i g l = IsOut (g.K.Sink.taken l.fn.sink) (g.K.Sink.taken l.sink)
    (g.K.Sink.faults l.fn.sink) (g.K.Sink.faults l.sink) l.fn.writer l.writer
    (rest_text l.rounds l.last) (rest_text (drop l.i l.rounds) l.last)
