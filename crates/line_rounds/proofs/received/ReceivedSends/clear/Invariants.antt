use Rattle.std.proofs.Common.{◌≡◌, ℕ, length, not, take}
use Rattle.std.specs.Prelude.{◌&&◌}
use Rattle.line_rounds.specs.Flags.{flag_at, flags_of, names_send}
use Rattle.line_rounds.proofs.received.ReceivedSends.clear.Given as goal

abbrev pub invariant-loop-message : goal.invariant-loop-message
invariant-loop-message l =
    (length l.self-inside.processes.items ≡ length l.fn.self)
    × ((p : ℕ) → length (flags_of l.self-inside.processes.items p) ≡ length (flags_of l.fn.self p))
    × ((p k : ℕ) → flag_at l.self-inside.processes.items p k
    ≡ (flag_at l.fn.self p k && not (names_send (take l.message-index l.messages) p k)))
