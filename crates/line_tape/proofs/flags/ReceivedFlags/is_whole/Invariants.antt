use Rattle.std.proofs.Common.{◌<◌, ◌≤◌, [], ℕ, length, get_or}
use Rattle.line_tape.specs.Event.{sends}
use Rattle.line_tape.specs.Line.{events_before}
use Rattle.line_tape.proofs.flags.ReceivedFlags.is_whole.Given as goal

abbrev pub invariant-loop-q : goal.invariant-loop-q
invariant-loop-q l = (p : ℕ) → p < l.q
    → sends (events_before l.history.processes l.line p) ≤ length (get_or l.self p [])
