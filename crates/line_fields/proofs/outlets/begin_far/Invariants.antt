use Rattle.std.proofs.Common.{◌++◌, ◌∷◌, drop, map}
use Rattle.std.specs.Prelude.{decimal}
use Rattle.std.specs.List.{flat_map, join_with_byte}
use Rattle.line_devices.proofs.OutputLemmas.{IsOut}
use Rattle.line_fields.proofs.outlets.begin_far.Given as goal

abbrev pub invariant-loop-i : goal.invariant-loop-i
invariant-loop-i g l = IsOut (g.K.Sink.taken l.fn.sink) (g.K.Sink.taken l.sink)
    (g.K.Sink.faults l.fn.sink) (g.K.Sink.faults l.sink) l.fn.text.items l.text.items
    (join_with_byte 44 (l.name ∷ map decimal l.numbers) ++ l.end)
    (flat_map (λ n. 44 ∷ decimal n) (drop l.i l.numbers) ++ l.end)
