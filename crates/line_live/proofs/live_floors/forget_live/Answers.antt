-- The links keep their order, and the floor is of the last round begun.
use Rattle.std.proofs.Common.{None, ap}
use Rattle.line_world.specs.Machine.{Machine, is_open}
use Rattle.line_cuts.specs.Cuts.{Floor}
use Rattle.line_live.proofs.ForgetLemmas.{idle_cases}
use Rattle.line_live.proofs.live_floors.forget_live.Goals as goal

pub cut_world-requires-clause-fifo : goal.cut_world-requires-clause-fifo
cut_world-requires-clause-fifo c =
    let machine : Machine = c.args.world.now in
    (idle_cases machine.mode (is_open machine) None c.in_ok-floor.ensures.done).0

pub cut_world-requires-clause-last : goal.cut_world-requires-clause-last
cut_world-requires-clause-last c = ap (λ (f : Floor). f.round) c.in_ok-floor.ensures.floor.value

pub cut_world-requires-clause-floor : goal.cut_world-requires-clause-floor
cut_world-requires-clause-floor c = c.in_ok-floor.ensures.floor.is
