use Rattle.std.proofs.Common.{◌≡◌, ◌≤◌, map, take, vec_len, vec_capacity}
use Rattle.line_tape.specs.Noted.{AreNoted, name_of_receipt}
use Rattle.line_tape.proofs.receipts.Receipts.cut.Given as goal

abbrev pub invariant-loop-self : goal.invariant-loop-self
invariant-loop-self l =
    AreNoted l.self-inside.receipts.items l.self-inside.last l.self-inside.root
    × (take l.end (map name_of_receipt l.self-inside.receipts.items) ≡ take l.end l.fn.self.names)
    × (vec_capacity l.initial.self-inside.receipts ≤ vec_capacity l.self-inside.receipts)
    × (vec_len l.self-inside.receipts ≤ vec_len l.initial.self-inside.receipts)
    × (l.self-inside.last.room ≡ l.initial.self-inside.last.room)

abbrev pub decreases-loop-self : goal.decreases-loop-self
decreases-loop-self l = vec_len l.self-inside.receipts
