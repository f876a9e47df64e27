use Rattle.std.proofs.Common.{◌≢◌, ℕ, ◌<◌, ◌≤◌, length, get_or}
use Rattle.line_rounds.specs.Spans.{RoundView}
use Rattle.line_rounds.proofs.markers.Marker.place.Given as goal

abbrev pub invariant-newest : goal.invariant-newest
invariant-newest l =
    (l.i ≤ length l.self-inside.rounds.items)
    × ((k : ℕ) (d : RoundView) → l.i ≤ k → k < length l.self-inside.rounds.items
    → (get_or l.self-inside.rounds.items k d).number ≢ l.round)

abbrev pub decreases-newest : goal.decreases-newest
decreases-newest l = l.i
