use Rattle.std.proofs.Common.{◌≡◌, ◌<◌, ◌≤◌, ℕ, length, take}
use Rattle.line_tape.specs.Event.{sends}
use Rattle.line_tape.specs.Line.{events_before}
use Rattle.line_rounds.specs.Flags.{flags_of}
use Rattle.line_rounds.proofs.received.ReceivedSends.cut.Given as goal

abbrev pub invariant-loop-q : goal.invariant-loop-q
invariant-loop-q l =
    (length l.self-inside.processes.items ≡ length l.fn.self)
    × ((k : ℕ) → k < l.q → flags_of l.self-inside.processes.items k
    ≡ take (sends (events_before l.history.processes l.line k)) (flags_of l.fn.self k))
    × ((k : ℕ) → l.q ≤ k → flags_of l.self-inside.processes.items k ≡ flags_of l.fn.self k)
