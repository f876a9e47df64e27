use Rattle.std.proofs.Common.{◌≡◌, ℕ, ◌<◌, ◌%◌, get_or}
use Rattle.std.specs.Int.{bit_at}
use Rattle.line_rounds.specs.Recording.{MarkerView}
use Rattle.line_moves.proofs.kept_recorders.KeptRecorders.of.Given as goal

abbrev pub invariant-each : goal.invariant-each
invariant-each l =
    (k : ℕ) (d : MarkerView) → k < l.i
    → bit_at l.receivers ((get_or l.markers.items k d).me % 64) ≡ 1
