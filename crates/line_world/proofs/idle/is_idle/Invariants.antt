use Rattle.std.proofs.Common.{◌<◌, ℕ, length}
use Rattle.std.specs.Prelude.{◌==◌}
use Rattle.line_tape.specs.Fit.{received_from, sent_between}
use Rattle.line_world.specs.Deliveries.{AreDelivered}
use Rattle.line_world.proofs.idle.is_idle.Given as goal

abbrev pub invariant-loop-i : goal.invariant-loop-i
invariant-loop-i l = (p : ℕ) → p < l.i → (q : ℕ) → q < length l.history.processes → AreDelivered
    (p == q) (received_from l.history.processes q p) (sent_between l.history.processes p q)
