use Rattle.std.proofs.Common.{◌≡◌, ◌<◌, [], ℕ, length, get_or}
use Rattle.line_tape.specs.Event.{sends}
use Rattle.line_tape.specs.History.{tape_at}
use Rattle.line_tape.proofs.flags.ReceivedFlags.new.Given as goal

abbrev pub invariant-loop-q : goal.invariant-loop-q
invariant-loop-q l =
    (length l.senders.items ≡ l.q) × ((p : ℕ) → p < l.q
    → length (get_or l.senders.items p []) ≡ sends (tape_at l.history.processes p))
