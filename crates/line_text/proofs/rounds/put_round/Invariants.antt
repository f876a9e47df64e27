use Rattle.std.proofs.Common.{◌+◌, ◌++◌, ◌∷◌, [], drop}
use Rattle.std.specs.Prelude.{decimal}
use Rattle.std.specs.List.{flat_map, range_with_len}
use Rattle.line_devices.proofs.OutputLemmas.{IsOut}
use Rattle.line_fields.specs.Texts.{record_text}
use Rattle.line_cuts.specs.Cuts.{lost_checks}
use Rattle.line_moves.specs.Listed.{check_in}
use Rattle.line_text.specs.Rounds.{round_record}
use Rattle.line_text.proofs.rounds.put_round.Given as goal

abbrev pub invariant-loop-value : goal.invariant-loop-value
invariant-loop-value g l =
    IsOut (g.K.Sink.taken l.fn.sink) (g.K.Sink.taken l.sink) (g.K.Sink.faults l.fn.sink)
    (g.K.Sink.faults l.sink) l.fn.writer l.writer
    (record_text (round_record l.floor l.n l.round))
    (flat_map (λ p. 44 ∷ decimal (check_in l.round p + lost_checks l.floor p))
    (drop l.value (range_with_len 0 l.n)) ++ 10 ∷ [])
