use Rattle.std.proofs.Common.{◌≡◌, ◌<◌, ◌≤◌, ◌-◌}
use Rattle.line_moves.proofs.leanings.hold_from.Given as goal

abbrev pub invariant-one : goal.invariant-one
invariant-one l = l.end ≤ l.limit

abbrev pub decreases-one : goal.decreases-one
decreases-one l = l.limit - l.end

abbrev pub invariant-each : goal.invariant-each
invariant-each l = (l.rounds ≡ l.initial.rounds) × (l.first < l.k)

abbrev pub decreases-each : goal.decreases-each
decreases-each l = l.end - l.k
