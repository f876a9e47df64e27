use Rattle.std.proofs.Common.{◌≡◌, map}
use Rattle.std.specs.List.{range_with_len}
use Rattle.line_tape.specs.Chain.{latest_choice}
use Rattle.line_plan.proofs.planner.first_ceilings.Given as goal

abbrev pub invariant-loop-q : goal.invariant-loop-q
invariant-loop-q l = l.line
    ≡ map (latest_choice l.catalogue.processes l.catalogue.marks l.failed) (range_with_len 0 l.q)
