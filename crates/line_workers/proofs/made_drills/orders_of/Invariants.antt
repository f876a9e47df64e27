use Rattle.std.proofs.Common.{◌≡◌}
use Rattle.line_workers.specs.MadeDrills.{orders_of}
use Rattle.line_workers.proofs.made_drills.orders_of.Given as goal

abbrev pub invariant-loop-round : goal.invariant-loop-round
invariant-loop-round l = l.orders.items ≡ orders_of l.workers l.p l._round
