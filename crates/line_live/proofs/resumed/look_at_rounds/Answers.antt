-- The rounds looked at grow by one, up to all that are listed.
use Rattle.std.proofs.Common.{◌≡◌, List, length, ◌∙◌, subst, arith}
use Rattle.std.specs.List.{All}
use Rattle.std.proofs.lemmas.List.{take_all}
use Rattle.std.proofs.lemmas.List.Elements.{All-more}
use Rattle.line_moves.specs.Listed.{ListedRound, channel_in, channel_table}
use Rattle.line_live.proofs.ResumedLemmas.{all_same, told_consistent, told_in_order}
use Rattle.line_live.proofs.resumed.look_at_rounds.Goals as goal

pub each-preserved : goal.each-preserved
each-preserved c =
    All-more (λ (round : ListedRound). round.channels
    ≡ channel_table (length round.checks) (channel_in round)) c.rounds-rounds.result.now
    c.each.round-index c.round-item.result (omega (arith, c.each-test.true)) c.each.invariant
    (subst (λ (round : ListedRound). round.channels ≡ channel_table (length round.checks)
    (channel_in round)) c.round-item.is c.checks-checks.ensures.channels)

pub returns-clause-order : goal.returns-clause-order
returns-clause-order c = told_in_order c.args.world.now.last_round c.args.world.now.rounds
    c.last_round-last_round.ensures.numbered

pub returns-clause-consistent : goal.returns-clause-consistent
returns-clause-consistent c = told_consistent c.args.world.now.history c.args.world.now.rounds
    c.rounds-rounds.ensures.snapshots c.requires.checked

pub returns-clause-same : goal.returns-clause-same
returns-clause-same c =
    all_same c.args.world.now.history c.args.world.now.rounds c.rounds-rounds.ensures.snapshots
    (subst (λ (rounds : List ListedRound). All (λ (round : ListedRound). round.channels
    ≡ channel_table (length round.checks) (channel_in round)) rounds)
    (take_all c.each.round-index c.rounds-rounds.result.now
    (omega (arith, c.each-test.false)) ∙ c.rounds-rounds.ensures.value) c.each.invariant)
