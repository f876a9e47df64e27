use Rattle.std.proofs.Common.{◌≡◌, ◌-◌, map}
use Rattle.std.specs.List.{range_with_len}
use Rattle.line_cuts.specs.Cuts.{lost_checks}
use Rattle.line_moves.specs.Listed.{check_in}
use Rattle.line_live.proofs.listed.left_checks.Given as goal

abbrev pub invariant-loop-q : goal.invariant-loop-q
invariant-loop-q l =
    l.checks.items ≡ map (λ p. check_in l.round p - lost_checks l.floor p) (range_with_len 0 l.q)
