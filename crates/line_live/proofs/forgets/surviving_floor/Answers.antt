-- The floor is that of the round, and survives as its checks do.
use Rattle.std.proofs.Common.{sym, ◌∙◌, subst}
use Rattle.line_cuts.specs.Cuts.{Floor, FloorSurvives}
use Rattle.line_moves.specs.Listed.{ListedRound}
use Rattle.line_world.specs.Machine.{Machine}
use Rattle.line_live.proofs.ForgetLemmas.{safe_floor}
use Rattle.line_live.proofs.forgets.surviving_floor.Goals as goal

pub returns-clause-floor : goal.returns-clause-floor
returns-clause-floor c =
    let machine : Machine = c.args.world.now in
    let round : ListedRound = c.args.round.now in record {
      value = c.in_ok-floor.ensures.value;
      is = c.in_ok-floor.ensures.floor;
      stays = subst (λ (floor : Floor). FloorSurvives machine.history machine.marks floor)
          (sym c.in_ok-floor.ensures.value)
          (safe_floor machine round (sym c.is_safe.ensures ∙ c.if-not-is_safe.false));
    }
