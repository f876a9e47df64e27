use Rattle.std.proofs.Common.{◌≡◌, drop}
use Rattle.std.specs.List.{filter_map}
use Rattle.line_tape.specs.Fit.{item_received}
use Rattle.line_world.proofs.idle.next_received.Given as goal

abbrev pub invariant-loop-i : goal.invariant-loop-i
invariant-loop-i l = filter_map (item_received l.p) (drop l.start l.events)
    ≡ filter_map (item_received l.p) (drop l.i l.events)
