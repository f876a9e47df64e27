use Rattle.std.proofs.Common.{◌≡◌, ℕ, ◌<◌, ◌≤◌, length}
use Rattle.std.specs.Prelude.{All}
use Rattle.line_rounds.specs.Recording.{MarkerView}
use Rattle.line_moves.specs.Openings.{kept_channel, recorded_channel}
use Rattle.line_moves.proofs.KeptMarkers.{Ascend}
use Rattle.line_moves.proofs.rounds.without_silence.Given as goal

abbrev pub invariant-each : goal.invariant-each
invariant-each l =
    (l.q ≤ length l.kept.items)
    × All (λ (marker : MarkerView). marker.n ≡ l.n) l.kept.items
    × Ascend 0 l.kept.items
    × ((p to : ℕ) → p < l.n → to < l.n
    → kept_channel l.kept.items l.round p to ≡ recorded_channel l.fn.markers.items l.round p to)

abbrev pub decreases-each : goal.decreases-each
decreases-each l = l.q
