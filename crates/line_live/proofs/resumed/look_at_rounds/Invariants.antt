use Rattle.std.proofs.Common.{◌≡◌, length, take}
use Rattle.std.specs.List.{All}
use Rattle.line_moves.specs.Listed.{ListedRound, channel_in, channel_table}
use Rattle.line_live.proofs.resumed.look_at_rounds.Given as goal

abbrev pub invariant-each : goal.invariant-each
invariant-each l = All (λ (round : ListedRound). round.channels
    ≡ channel_table (length round.checks) (channel_in round)) (take l.round-index l.rounds)
