use Rattle.std.proofs.Common.{◌++◌, ◌∷◌, [], drop}
use Rattle.std.specs.List.{flat_map}
use Rattle.line_devices.proofs.OutputLemmas.{IsOut}
use Rattle.line_fields.specs.Texts.{hex_pair, hex_text}
use Rattle.line_fields.proofs.outlets.add_bytes.Given as goal

abbrev pub invariant-loop-i : goal.invariant-loop-i
invariant-loop-i g l = IsOut (g.K.Sink.taken l.fn.sink) (g.K.Sink.taken l.sink)
    (g.K.Sink.faults l.fn.sink) (g.K.Sink.faults l.sink) l.fn.text.items l.text.items
    (44 ∷ hex_text l.bytes) (flat_map hex_pair (drop l.i l.bytes) ++ [])
