use Rattle.std.proofs.Common.{◌≡◌, ◌+◌, map, get_or}
use Rattle.std.specs.List.{range_with_len}
use Rattle.line_cuts.proofs.whole_floors.sums.Given as goal

abbrev pub invariant-loop-p : goal.invariant-loop-p
invariant-loop-p l =
    l.sums.items ≡ map (λ p. get_or l.terms p 0 + get_or l.others p 0) (range_with_len 0 l.p)
