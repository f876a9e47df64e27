use Rattle.std.proofs.Common.{drop}
use Rattle.std.specs.List.{flat_map, range_with_len}
use Rattle.line_text.specs.Rounds.{channels_from, round_records}
use Rattle.line_devices.proofs.OutputLemmas.{IsOut}
use Rattle.line_fields.specs.Texts.{records_text}
use Rattle.line_text.proofs.listings.put_whole_round.Given as goal

abbrev pub invariant-loop-value : goal.invariant-loop-value
invariant-loop-value g l = IsOut (g.K.Sink.taken l.fn.sink) (g.K.Sink.taken l.sink)
    (g.K.Sink.faults l.fn.sink) (g.K.Sink.faults l.sink) l.fn.writer l.writer
    (records_text (round_records l.floor l.n l.round)) (records_text
    (flat_map (channels_from l.floor l.n l.round) (drop l.value (range_with_len 0 l.n))))
