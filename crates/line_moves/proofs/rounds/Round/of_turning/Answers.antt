-- The channels that were counted are those of the round.
use Rattle.std.proofs.Common.{ℕ, List, length, ap, ◌∙◌, sym, subst}
use Rattle.line_rounds.specs.Tables.{IsTable}
use Rattle.line_moves.proofs.TurnFacts.{counted_is}
use Rattle.line_moves.proofs.rounds.Round.of_turning.Goals as goal

pub invariant_of-result : goal.invariant_of-result
invariant_of-result c =
    subst (λ (n : ℕ). IsTable n c.args.channels) (sym (ap (λ (v : List ℕ). length v)
    c.into_checks.ensures ∙ c.requires.turning.count)) c.requires.channels.shape

pub returns : goal.returns
returns c =
    counted_is c.args._history.now.processes c.args.turning c.requires.turning c.requires.completed
    c.into_checks.result.items c.args.channels c.number-number.result c.into_checks.ensures
    c.number-number.ensures c.requires.channels
