use Rattle.std.proofs.Common.{◌<◌, ℕ}
use Rattle.line_tape.specs.Line.{events_before, AreSentBefore}
use Rattle.line_live.proofs.held.is_consistent_at.Given as goal

abbrev pub invariant-each : goal.invariant-each
invariant-each l = (p : ℕ) → p < l.q
    → AreSentBefore l.catalogue.processes l.line (events_before l.catalogue.processes l.line p)
