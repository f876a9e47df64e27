use Rattle.std.proofs.Common.{◌++◌, ◌∷◌, [], drop, map}
use Rattle.std.specs.List.{flat_map}
use Rattle.line_devices.proofs.OutputLemmas.{IsOut}
use Rattle.line_fields.specs.Outlets.{field_text}
use Rattle.line_fields.specs.Texts.{record_text}
use Rattle.line_fields.proofs.outlets.put_fields.Given as goal

abbrev pub invariant-loop-i : goal.invariant-loop-i
invariant-loop-i g l = IsOut (g.K.Sink.taken l.fn.sink) (g.K.Sink.taken l.sink)
    (g.K.Sink.faults l.fn.sink) (g.K.Sink.faults l.sink) l.fn.writer l.writer
    (record_text (l.name ∷ map field_text l.fields))
    (flat_map (λ field. 44 ∷ field_text field) (drop l.i l.fields) ++ 10 ∷ [])
