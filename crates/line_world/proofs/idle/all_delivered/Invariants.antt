use Rattle.std.proofs.Common.{◌<◌, ℕ}
use Rattle.std.specs.Prelude.{◌==◌}
use Rattle.line_tape.specs.Fit.{received_from, sent_between}
use Rattle.line_world.specs.Deliveries.{AreDelivered}
use Rattle.line_world.proofs.idle.all_delivered.Given as goal

abbrev pub invariant-loop-i : goal.invariant-loop-i
invariant-loop-i l = (q : ℕ) → q < l.i → AreDelivered (l.p == q)
    (received_from l.history.processes q l.p) (sent_between l.history.processes l.p q)
