use Rattle.std.proofs.Common.{◌≡◌, ℕ, ◌<◌, ◌≤◌, length, get_or}
use Rattle.line_rounds.specs.Spans.{SenderLogView, names_of, least_room}
use Rattle.line_rounds.proofs.logs.Logs.reserve.Given as goal

abbrev pub invariant-loop-i : goal.invariant-loop-i
invariant-loop-i l =
    (names_of l.self-inside.logs.items ≡ names_of l.initial.self-inside.logs.items)
    × (least_room l.initial.self-inside.logs.items ≤ least_room l.self-inside.logs.items)
    × ((k : ℕ) (d : SenderLogView) → k < l.i → 0 < (get_or l.self-inside.logs.items k d).room)
    × (length l.self-inside.logs.items ≡ l.i-end)
