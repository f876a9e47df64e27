-- The round that stands there is the one of that number.
use Rattle.std.proofs.Common.{◌≡◌, List, Some, sym, ap, ◌∙◌}
use Rattle.std.proofs.lemmas.Result.{IfOk-weaker}
use Rattle.line_moves.specs.Listed.{ListedRound}
use Rattle.line_world.specs.Machine.{Machine}
use Rattle.line_live.specs.Forgets.{listed_of, IsFloorAt, IsFloorOfRound}
use Rattle.line_live.proofs.forgets.round_floor.Goals as goal

pub returns-in-Some-clause-floor : goal.returns-in-Some-clause-floor
returns-in-Some-clause-floor c =
    let machine : Machine = c.args.world.now in
    let round : ListedRound = c.index-rounds-i.result in
    let listed : listed_of machine.rounds c.args.number ≡ Some round =
    ap (λ (rounds : List ListedRound). listed_of rounds c.args.number)
    (sym c.rounds-rounds.ensures.value)
    ∙ c.in-Some.ensures.1 round ∙ ap (λ (r : ListedRound). Some r) (sym c.index-rounds-i.is) in
    IfOk-weaker c.surviving_floor.result (IsFloorAt machine round)
    (IsFloorOfRound machine c.args.number)
    (λ floor at. record { round = round; listed = listed; at = at }) c.surviving_floor.ensures.floor
