use Rattle.std.proofs.Common.{◌≡◌, ◌-◌, map}
use Rattle.std.specs.List.{range_with_len}
use Rattle.line_tape.specs.Rounds.{check_line}
use Rattle.line_cuts.specs.Cuts.{floor_check, lost_checks}
use Rattle.line_live.proofs.held.kept_line.Given as goal

abbrev pub invariant-loop-q : goal.invariant-loop-q
invariant-loop-q l = l.line
    ≡ check_line (map (λ p. floor_check l.floor p - lost_checks l.floor p) (range_with_len 0 l.q))
