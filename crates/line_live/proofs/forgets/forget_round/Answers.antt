-- The links keep their order, and the floor is of the last round begun.
use Rattle.std.proofs.Common.{ap}
use Rattle.line_world.specs.Machine.{Machine, is_open}
use Rattle.line_cuts.specs.Cuts.{Floor}
use Rattle.line_live.specs.Forgets.{listed_of, round_refusal}
use Rattle.line_live.proofs.ForgetLemmas.{idle_cases}
use Rattle.line_live.proofs.forgets.forget_round.Goals as goal

pub cut_world-requires-clause-fifo : goal.cut_world-requires-clause-fifo
cut_world-requires-clause-fifo c =
    let machine : Machine = c.args.world.now in
    (idle_cases machine.mode (is_open machine) (round_refusal machine
    (listed_of machine.rounds c.args.number)) c.in_ok-floor.ensures.done).0

pub cut_world-requires-clause-last : goal.cut_world-requires-clause-last
cut_world-requires-clause-last c = ap (λ (f : Floor). f.round) c.in_ok-floor.ensures.floor.at.value

pub cut_world-requires-clause-floor : goal.cut_world-requires-clause-floor
cut_world-requires-clause-floor c = c.in_ok-floor.ensures.floor.at.is
