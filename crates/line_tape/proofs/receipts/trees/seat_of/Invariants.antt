use Rattle.std.proofs.Common.{◌≡◌, ◌+◌, ◌-◌, ◌<◌, ℕ, suc, length}
use Rattle.line_tape.specs.Noted.{IsAside, IsWalkedTo, IsNode, key_of, name_of_receipt, name_at}
use Rattle.line_tape.specs.Noted.{rest_of_key, link_in_seat, link_by_key}
use Rattle.line_tape.proofs.receipts.trees.seat_of.Given as goal

abbrev pub invariant-loop-link : goal.invariant-loop-link
invariant-loop-link l =
    IsNode l.receipts l.seat.above
    × (link_in_seat l.receipts l.root l.seat.above l.seat.far ≡ l.link)
    × ((d : ℕ) × (link_by_key l.receipts l.root (key_of (name_of_receipt l.wanted)) d ≡ l.link)
    × (rest_of_key (key_of (name_of_receipt l.wanted)) d ≡ l.key)
    × IsWalkedTo l.receipts l.root (key_of (name_of_receipt l.wanted)) l.seat.above l.seat.far d
    × ((i : ℕ) → i < length l.receipts → IsAside l.receipts i
    → name_at l.receipts i ≡ name_of_receipt l.wanted → (e : ℕ)
    × (link_by_key l.receipts l.root (key_of (name_of_receipt l.wanted)) (d + e) ≡ suc i)))

abbrev pub decreases-loop-link : goal.decreases-loop-link
decreases-loop-link l = length l.receipts - l.seat.above
