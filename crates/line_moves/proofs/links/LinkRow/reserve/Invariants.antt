use Rattle.std.proofs.Common.{◌≡◌, ℕ, true, ◌<◌, length, get_or}
use Rattle.line_moves.specs.Rooms.{QueueView, items_held}
use Rattle.line_moves.proofs.links.LinkRow.reserve.Given as goal

abbrev pub invariant-loop-q : goal.invariant-loop-q
invariant-loop-q l =
    (items_held l.self-inside.queues.items ≡ items_held l.initial.self-inside.queues.items)
    × ((k : ℕ) (d : QueueView) → k < l.q → 0 < (get_or l.self-inside.queues.items k d).room)
    × (length l.self-inside.queues.items ≡ l.q-end)
    × (l.self-inside.used ≡ true)
