use Rattle.std.proofs.Common.{◌≡◌, ◌<◌, ℕ}
use Rattle.line_tape.specs.Event.{sends}
use Rattle.line_tape.specs.History.{tape_at}
use Rattle.line_tape.specs.Line.{events_before}
use Rattle.line_vectors.specs.Reach.{reach_from}
use Rattle.line_catalogue.proofs.strangers.has_heard.Given as goal

abbrev pub invariant-loop-s : goal.invariant-loop-s
invariant-loop-s l = (p : ℕ) → p < l.s → 0 < reach_from (tape_at l.catalogue.processes l.fn.q) p
    → sends (events_before l.catalogue.processes l.line p) ≡ 0
