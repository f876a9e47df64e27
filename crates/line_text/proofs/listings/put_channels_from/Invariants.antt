use Rattle.std.proofs.Common.{drop}
use Rattle.std.specs.List.{flat_map, range_with_len}
use Rattle.line_text.specs.Rounds.{channel_records, channels_from}
use Rattle.line_devices.proofs.OutputLemmas.{IsOut}
use Rattle.line_fields.specs.Texts.{records_text}
use Rattle.line_text.proofs.listings.put_channels_from.Given as goal

abbrev pub invariant-loop-value : goal.invariant-loop-value
invariant-loop-value g l = IsOut (g.K.Sink.taken l.fn.sink) (g.K.Sink.taken l.sink)
    (g.K.Sink.faults l.fn.sink) (g.K.Sink.faults l.sink) l.fn.writer l.writer
    (records_text (channels_from l.floor l.n l.round l.from)) (records_text
    (flat_map (channel_records l.floor l.round l.from) (drop l.value (range_with_len 0 l.n))))
