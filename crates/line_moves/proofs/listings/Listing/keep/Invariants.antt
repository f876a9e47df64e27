use Rattle.std.proofs.Common.{◌≡◌, ℕ, ◌<◌, ◌≤◌, false, length, get_or}
use Rattle.line_moves.specs.Listed.{ListedRound, stays}
use Rattle.line_moves.proofs.listings.Listing.keep.Given as goal

abbrev pub invariant-cut : goal.invariant-cut
invariant-cut l =
    (l.end ≤ length l.self-inside.rounds.items)
    × ((i : ℕ) (d : ListedRound) → l.end ≤ i → i < length l.self-inside.rounds.items
    → stays l.line (get_or l.self-inside.rounds.items i d) ≡ false)

abbrev pub decreases-cut : goal.decreases-cut
decreases-cut l = l.end
