use Rattle.std.proofs.Common.{◌≡◌, map}
use Rattle.std.specs.List.{flat_map, range_with_len}
use Rattle.line_tape.specs.Transit.{Letter, open_letters}
use Rattle.line_catalogue.proofs.transits.find_transit.Given as goal

abbrev pub invariant-loop-p : goal.invariant-loop-p
invariant-loop-p l = l.messages.items ≡ flat_map (λ p. map (λ (letter : Letter). letter.message)
    (open_letters l.history.processes l.line p)) (range_with_len 0 l.p)
