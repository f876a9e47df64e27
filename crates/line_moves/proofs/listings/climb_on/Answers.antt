-- The last round is below the new one, and all others are below the last.
use Rattle.std.proofs.Common.{◌≡◌, ◌<◌, ◌-◌, true, length, get_or, rules}
use Rattle.line_moves.specs.Listed.{ListedRound}
use Rattle.line_moves.proofs.ListingLemmas.{Climb-push}
use Rattle.line_moves.proofs.listings.climb_on.Goals as goal

pub returns : goal.returns
returns c = λ t.
    let last : ListedRound = c.index-rounds-n.result in
    let some : 0 < length c.args.rounds.now = search rules in
    let is : last ≡ get_or c.args.rounds.now (length c.args.rounds.now - 1) last = search rules in
    let climbs : c.args.climbs ≡ true = search rules in
    Climb-push c.args.rounds.now last c.args.round.now some is (c.requires climbs)
    (c.is_below.ensures t)
