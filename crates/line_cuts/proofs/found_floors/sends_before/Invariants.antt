use Rattle.std.proofs.Common.{◌≡◌, map}
use Rattle.std.specs.List.{range_with_len}
use Rattle.line_tape.specs.Event.{sends}
use Rattle.line_tape.specs.Line.{events_before}
use Rattle.line_cuts.proofs.found_floors.sends_before.Given as goal

abbrev pub invariant-loop-q : goal.invariant-loop-q
invariant-loop-q l = l.counts.items
    ≡ map (λ p. sends (events_before l.history.processes l.line p)) (range_with_len 0 l.q)
